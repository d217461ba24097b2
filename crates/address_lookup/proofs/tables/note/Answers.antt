use Rattle.address_lookup.proofs.Gathering.{noted_key}
use Rattle.address_lookup.proofs.tables.note.Goals as goal

pub returns : goal.returns
returns c = record {
  first = c.in_ok-insert.ensures.added;
  others = λ k was. noted_key c.args.programs.now c.insert.new.self c.args.key k (c.in_ok-insert.ensures.updates.0 k) was;
}
