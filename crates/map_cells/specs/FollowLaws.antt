-- A pass that follows another belongs to the same table, and so on over any chain of calls.
use Rattle.std.specs.Prelude.{List, [], ◌++◌}
use Rattle.std.proofs.Common.{refl, sym, ap, ◌∙◌, append_assoc, append-nil}
use Rattle.map_core.specs.declared.entry.Entry.{Entry}
use Rattle.map_core.specs.History.{StartsWith}
use Rattle.map_core.specs.Calls.{SamePass}
use Rattle.map_cells.specs.Seen.{CellsView, PassView, IsOf, Continues, Follows}

pub starts_same : (a : List Entry) → StartsWith a a
starts_same a = record { rest = []; joins = append-nil a }

pub starts_then : (a b c : List Entry) → StartsWith a b → StartsWith b c → StartsWith a c
starts_then a b c p q = record {
  rest = p.rest ++ q.rest;
  joins = sym (append_assoc a p.rest q.rest) ∙ (ap (λ (x : List Entry). x ++ q.rest) p.joins ∙ q.joins);
}

pub follows_same : (p : PassView) → Follows p p
follows_same p = record {
  table = refl;
  layout = refl;
  tag = refl;
  number = refl;
  numbers = refl;
  spare = refl;
  front = starts_same p.knows.front;
  rest = λ r. r;
}

pub follows_then : (p q r : PassView) → Follows p q → Follows q r → Follows p r
follows_then p q r a b = record {
  table = b.table ∙ a.table;
  layout = b.layout ∙ a.layout;
  tag = b.tag ∙ a.tag;
  number = b.number ∙ a.number;
  numbers = b.numbers ∙ a.numbers;
  spare = b.spare ∙ a.spare;
  front = starts_then p.knows.front q.knows.front r.knows.front a.front b.front;
  rest = λ x. b.rest (a.rest x);
}

pub follows_continues : (p q : PassView) → Follows p q → Continues p q
follows_continues p q a = record {
  table = a.table;
  layout = a.layout;
  tag = a.tag;
  number = a.number;
  front = a.front;
  rest = a.rest;
}

pub follows_same_pass : (p q : PassView) → Follows p q → SamePass p.knows q.knows
follows_same_pass p q a = record {
  number = a.number;
  numbers = a.numbers;
  spare = a.spare;
  tag = a.tag;
}

pub continues_same : (p : PassView) → Continues p p
continues_same p = follows_continues p p (follows_same p)

pub continues_then : (p q r : PassView) → Continues p q → Continues q r → Continues p r
continues_then p q r a b = record {
  table = b.table ∙ a.table;
  layout = b.layout ∙ a.layout;
  tag = b.tag ∙ a.tag;
  number = b.number ∙ a.number;
  front = starts_then p.knows.front q.knows.front r.knows.front a.front b.front;
  rest = λ x. b.rest (a.rest x);
}

-- belonging goes on
pub of_follows : (c : CellsView) (p q : PassView) → IsOf c p → Follows p q → IsOf c q
of_follows c p q of a = record {
  table = a.table ∙ of.table;
  layout = a.layout ∙ of.layout;
  tag = a.tag ∙ of.tag;
}

pub of_continues : (c : CellsView) (p q : PassView) → IsOf c p → Continues p q → IsOf c q
of_continues c p q of a = record {
  table = a.table ∙ of.table;
  layout = a.layout ∙ of.layout;
  tag = a.tag ∙ of.tag;
}
