use Rattle.std.proofs.Common.{◌≡◌, ◌++◌, ◌∷◌, ℕ, List, Ok, rules, ap, subst, sym, ◌∙◌, arith}
use Rattle.dw_fields.specs.Span.{Span, at}
use Rattle.abbrev_decl.specs.Lookup.{LeavesSource}
use Rattle.unit_headers.specs.declared.header.UnitHeader.{UnitHeader}
use Rattle.unit_headers.specs.Refusals.{Refuses}
use Rattle.form_values.specs.View.{widths_of}
use Rattle.entry_tree.specs.Kept.{kept_entry_at}
use Rattle.entry_tree.specs.Keys.{GainsOnly, IsFoundKey}
use Rattle.entry_tree.specs.Views.{EntryView}
use Rattle.entry_tree.proofs.CursorLaws.{took_more, went_fails, went_known, went_next}
use Rattle.entry_tree.proofs.KeyLaws.{GainsOnly-then}
use Rattle.entry_tree.proofs.TakenLaws.{IfKnown}
use Rattle.entry_tree.proofs.cursor.EntryCursor.read_into.Goals as goal

pub returns-in-Err-clause-entries : goal.returns-in-Err-clause-entries
returns-in-Err-clause-entries g c =
    let left : LeavesSource (g.D.Decls.section c.args.decls.now) (g.D.Decls.section c.entries.decls)
    (g.D.Decls.seen c.args.decls.now) (g.D.Decls.seen c.entries.decls) (g.D.Decls.spent c.args.decls.now) (g.D.Decls.spent c.entries.decls)
    = let p = c.entries.invariant.follows in search rules in
    let header : UnitHeader = c.entries.self-inside.header.now in
    let P : List ℕ → Span → Type 0 = λ section s. Refuses c.in-Err.refusal (kept_entry_at g.K.AttrNames.keeps section header.«abbrev» (widths_of header) c.entries.self-inside.depth s) in
    went_fails c.in-Err.refusal g.K.AttrNames.keeps (g.D.Decls.section c.args.decls.now) c.args.self.now header c.entries.self-inside.cut c.entries.self-inside.depth c.entries.self-inside.memo.slots.items
    _ (omega arith) (subst (λ s. P (g.D.Decls.section c.args.decls.now) s) c.fork-cut.ensures (subst (λ section. P section c.fork-cut.result) left.kept c.in-Err.ensures.entry)) c.entries.invariant.went

pub returns-in-Err-clause-placed : goal.returns-in-Err-clause-placed
returns-in-Err-clause-placed g c =
    let left : LeavesSource (g.D.Decls.section c.args.decls.now) (g.D.Decls.section c.entries.decls)
    (g.D.Decls.seen c.args.decls.now) (g.D.Decls.seen c.entries.decls) (g.D.Decls.spent c.args.decls.now) (g.D.Decls.spent c.entries.decls)
    = let p = c.entries.invariant.follows in search rules in
    let P : List ℕ → UnitHeader → Type 0 = λ section header. GainsOnly (IsFoundKey section header.«abbrev») (g.D.Decls.placed c.entries.decls) (g.D.Decls.placed c.read_entry-entry.new.decls) in
    GainsOnly-then _ _ _ _ c.entries.invariant.placed
    (subst (λ h. P (g.D.Decls.section c.args.decls.now) h) c.entries.invariant.went.header (subst (λ section. P section c.entries.self-inside.header.now) left.kept c.in-Err.ensures.placed))

pub returns-in-Err-clause-known : goal.returns-in-Err-clause-known
returns-in-Err-clause-known g c =
    let left : LeavesSource (g.D.Decls.section c.args.decls.now) (g.D.Decls.section c.entries.decls)
    (g.D.Decls.seen c.args.decls.now) (g.D.Decls.seen c.entries.decls) (g.D.Decls.spent c.args.decls.now) (g.D.Decls.spent c.entries.decls)
    = let p = c.entries.invariant.follows in search rules in
    let header : UnitHeader = c.entries.self-inside.header.now in
    let P : List ℕ → Span → Type 0 = λ section s. IfKnown (g.D.Decls.seen c.entries.decls) header.«abbrev» (c.read_entry-entry.new.steps ≡ c.entries.steps)
    (kept_entry_at g.K.AttrNames.keeps section header.«abbrev» (widths_of header) c.entries.self-inside.depth s) in
    went_known g.K.AttrNames.keeps (g.D.Decls.section c.args.decls.now) c.args.self.now header c.entries.self-inside.cut c.entries.self-inside.depth c.entries.self-inside.memo.slots.items
    _ _ _ _ _ _ (omega arith) c.entries.invariant.went left.seen c.entries.invariant.known
    (subst (λ s. P (g.D.Decls.section c.args.decls.now) s) c.fork-cut.ensures (subst (λ section. P section c.fork-cut.result) left.kept c.in-Err.ensures.known))

pub entries-preserved : goal.entries-preserved
entries-preserved g c =
    let left : LeavesSource (g.D.Decls.section c.args.decls.now) (g.D.Decls.section c.entries.decls)
    (g.D.Decls.seen c.args.decls.now) (g.D.Decls.seen c.entries.decls) (g.D.Decls.spent c.args.decls.now) (g.D.Decls.spent c.entries.decls)
    = let p = c.entries.invariant.follows in search rules in
    let step : LeavesSource (g.D.Decls.section c.entries.decls) (g.D.Decls.section c.read_entry-entry.new.decls)
    (g.D.Decls.seen c.entries.decls) (g.D.Decls.seen c.read_entry-entry.new.decls) (g.D.Decls.spent c.entries.decls) (g.D.Decls.spent c.read_entry-entry.new.decls)
    = let q = c.in-Ok.ensures.follows in search rules in
    let p = c.entries.invariant.follows in
    let q = c.in-Ok.ensures.follows in
    let header : UnitHeader = c.entries.self-inside.header.now in
    let went = c.entries.invariant.went in
    let entry = c.in-Ok.ensures.entry in
    let F : List ℕ → UnitHeader → Type 0 = λ section h. GainsOnly (IsFoundKey section h.«abbrev») (g.D.Decls.placed c.entries.decls) (g.D.Decls.placed c.read_entry-entry.new.decls) in
    let K : List ℕ → Span → Type 0 = λ section s. IfKnown (g.D.Decls.seen c.entries.decls) header.«abbrev» (c.read_entry-entry.new.steps ≡ c.entries.steps)
    (kept_entry_at g.K.AttrNames.keeps section header.«abbrev» (widths_of header) c.entries.self-inside.depth s) in
    record {
      went = went_next g.K.AttrNames.keeps (g.D.Decls.section c.args.decls.now) c.args.self.now header c.entries.self-inside.cut c.read_entry-entry.new.cut
          c.entries.self-inside.depth c.in-Ok.entry.depth c.entries.self-inside.memo.slots.items c.read_entry-entry.new.memo.slots.items _ _ entry.found.1
          (omega arith) (omega (arith, c.in-Ok.ensures.forward.0, ap (λ (s : Span). s.place) c.fork-cut.ensures))
          (ap (λ section. kept_entry_at g.K.AttrNames.keeps section header.«abbrev» (widths_of header) c.entries.self-inside.depth c.entries.self-inside.cut) (sym left.kept)
          ∙ ap (kept_entry_at g.K.AttrNames.keeps (g.D.Decls.section c.entries.decls) header.«abbrev» (widths_of header) c.entries.self-inside.depth) (sym c.fork-cut.ensures)
          ∙ entry.is ∙ ap (λ depth. Ok ((depth, entry.found.1), c.read_entry-entry.new.cut.place)) entry.took.0)
          (entry.moved ∙ ap (λ (s : Span). at s c.read_entry-entry.new.cut.place) c.fork-cut.ensures) went
          (took_more _ _ _ _ _ _ _ _ _ _ _ _ went.entries entry.found.1 (ap (λ (h : UnitHeader). h.«abbrev») went.header) step.seen step.spent went.took entry.took.1
          (λ p q. search rules));
      moved = omega (arith, c.in-Ok.ensures.forward.0, ap (λ (s : Span). s.place) c.fork-cut.ensures);
      some = λ any. omega (arith, c.in-Ok.ensures.forward.0, ap (λ (s : Span). s.place) c.fork-cut.ensures);
      short = omega (arith, ap (λ (s : Span). s.end) entry.moved, ap (λ (s : Span). s.end) c.fork-cut.ensures);
      deep = omega (arith, c.in-Ok.ensures.forward.0, c.in-Ok.ensures.forward.1, ap (λ (s : Span). s.place) c.fork-cut.ensures);
      serves = record { size = c.entries.invariant.serves.size; inside = rw step.kept c.entries.invariant.serves.inside; remembers = c.in-Ok.ensures.remembers };
      follows = search rules;
      placed = GainsOnly-then _ _ _ _ c.entries.invariant.placed
          (subst (λ h. F (g.D.Decls.section c.args.decls.now) h) went.header (subst (λ section. F section header) left.kept c.in-Ok.ensures.placed));
      known = went_known g.K.AttrNames.keeps (g.D.Decls.section c.args.decls.now) c.args.self.now header c.entries.self-inside.cut c.entries.self-inside.depth c.entries.self-inside.memo.slots.items
          _ _ _ _ _ _ (omega arith) went left.seen c.entries.invariant.known
          (subst (λ s. K (g.D.Decls.section c.args.decls.now) s) c.fork-cut.ensures (subst (λ section. K section c.fork-cut.result) left.kept c.in-Ok.ensures.known));
    }
