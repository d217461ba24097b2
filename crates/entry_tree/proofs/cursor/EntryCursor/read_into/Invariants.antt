use Rattle.std.proofs.Common.{◌≡◌, ◌+◌, ◌<◌, ◌≤◌, ◌^◌, IfOk}
use Rattle.entry_tree.specs.Keys.{GainsOnly, IsFoundKey, KeysKnown}
use Rattle.entry_tree.specs.Taken.{CursorView, ServesCursor, TookEntries, WentOn, entries_left}
use Rattle.entry_tree.proofs.cursor.EntryCursor.read_into.Given as goal

abbrev pub invariant-entries : goal.invariant-entries
invariant-entries g l =
    let now : CursorView = record { header = l.self-inside.header.now; left = l.self-inside.cut; depth = l.self-inside.depth; slots = l.self-inside.memo.slots.items } in
    record {
      went : WentOn g.K.AttrNames.keeps (g.D.Decls.section l.fn.decls) l.fn.self now
          (TookEntries (g.S.EntrySink.took l.fn.sink l.sink) l.fn.self.header.«abbrev» (g.D.Decls.seen l.decls) (g.D.Decls.spent l.decls) (g.D.Decls.placed l.fn.decls) (g.D.Decls.placed l.decls));
      moved : l.fn.self.left.place + l._turn ≤ l.self-inside.cut.place;
      some : 0 < l.passed → l.fn.self.left.place < l.self-inside.cut.place;
      short : l.self-inside.cut.end < 2 ^ 32;
      deep : l.self-inside.depth ≤ l.self-inside.cut.place;
      serves : ServesCursor (g.D.Decls.section l.decls) (g.D.Decls.seen l.decls) (g.D.Decls.spent l.decls) now;
      follows : g.D.Decls.follows l.fn.decls l.decls;
      placed : GainsOnly (IsFoundKey (g.D.Decls.section l.fn.decls) l.fn.self.header.«abbrev») (g.D.Decls.placed l.fn.decls) (g.D.Decls.placed l.decls);
      known : IfOk (entries_left g.K.AttrNames.keeps (g.D.Decls.section l.fn.decls) l.fn.self) (λ entries. KeysKnown (g.D.Decls.seen l.fn.decls) l.fn.self.header.«abbrev» entries → l.steps ≡ l.fn.steps);
    }
