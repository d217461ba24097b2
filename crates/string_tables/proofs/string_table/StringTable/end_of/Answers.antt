use Rattle.std.proofs.Common.{◌+◌, ◌≡◌, ◌<◌, length, ap, sym, arith}
use Rattle.std.proofs.lemmas.Bool.{ltb-true, ltb-false}
use Rattle.string_tables.specs.StringTables.{end_from}
use Rattle.string_tables.proofs.Ends.{end_found, end_of_block, end_of_table, end_least, end_within}
use Rattle.string_tables.proofs.string_table.StringTable.end_of.Goals as goal

pub returns-in-Some : goal.returns-in-Some
returns-in-Some c =
    let inside : c.args.place < length c.self.inside.bytes.now = rw c.self.view_is c.requires in
    let end : end_from c.self.inside.bytes.now c.args.place ≡ c.args.place + c.in-Some.count
    = end_found c.self.inside.bytes.now c.args.place _ c.in-Some.count (sym c.in-Some.ensures.place) in
    rw (← c.self.view_is) record {
      end = sym end;
      least = omega arith;
      most = omega (arith, end, end_within c.self.inside.bytes.now c.args.place (omega arith));
    }

pub returns-in-Some-get : goal.returns-in-Some-get
returns-in-Some-get c =
    let inside : c.args.place < length c.self.inside.bytes.now = rw c.self.view_is c.requires in
    let end : c.in-Some-get.end.now ≡ end_from c.self.inside.bytes.now c.args.place
    = end_of_block c.self.inside.bytes.now c.self.inside.ends.items c.args.place (c.args.place + c.min-near.result) c.in-Some-get.end.now c.self.invariant inside (ap (λ n. c.args.place + n) c.min-near.ensures)
    (sym c.in-None.ensures.place) (rw c.deref.ensures.value at (ltb-true _ _ (sym c.in-Some-get.ensures.lookup.0))) (rw c.deref.ensures.value at c.in-Some-get.ensures.lookup.1) in
    rw (← c.self.view_is) record {
      end = end;
      least = omega (arith, end, end_least c.self.inside.bytes.now c.args.place);
      most = omega (arith, end, end_within c.self.inside.bytes.now c.args.place (omega arith));
    }

pub returns-in-None-get : goal.returns-in-None-get
returns-in-None-get c =
    let inside : c.args.place < length c.self.inside.bytes.now = rw c.self.view_is c.requires in
    rw (← c.self.view_is) record {
      end = end_of_table c.self.inside.bytes.now c.self.inside.ends.items c.args.place (c.args.place + c.min-near.result) c.self.invariant inside (ap (λ n. c.args.place + n) c.min-near.ensures)
          (sym c.in-None.ensures.place) (rw c.deref.ensures.value at (ltb-false _ _ (sym c.in-None-get.ensures.lookup.0)));
      least = omega arith;
      most = omega arith;
    }
