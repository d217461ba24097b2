-- Entries in a batch, with their attributes in one list.
use Rattle.std.specs.Prelude.{◌≡◌, ◌-◌, ◌≤◌, ◌++◌, [], ℕ, List, length, map, take, drop}
use Rattle.std.proofs.Common.{ap, sym, ◌∙◌, append-nil, append_assoc}
use Rattle.entry_tree.specs.declared.batch.BatchHead.{BatchHead}
use Rattle.entry_tree.specs.declared.entry.Attr.{Attr}
use Rattle.entry_tree.specs.declared.entry.EntryHead.{EntryHead}
use Rattle.entry_tree.specs.Views.{EntryView, attr_view}

-- an entry of such a head, with these attributes
abbrev pub entry_with : EntryHead → List Attr → EntryView
entry_with h attrs =
    record { place = h.place; depth = h.depth; code = h.code; tag = h.tag; attrs = map attr_view attrs }

-- an entry of a batch with these attributes
abbrev pub entry_in : List Attr → BatchHead → EntryView
entry_in attrs h = entry_with h.head (take (h.to - h.from) (drop h.from attrs))

-- its attributes are among so many
abbrev pub is_inside : ℕ → BatchHead → Type 0
is_inside count h = (h.from ≤ h.to) × (h.to ≤ count)

-- A batch: its entries, and the one that was begun last, with the attributes that it was given.
pub record BatchView : Type 0 where
  pub entries : List EntryView
  pub begun : EntryView

pub nothing_taken : (b : BatchView) → b.entries ≡ b.entries ++ []
nothing_taken b = sym (append-nil b.entries)

pub taken_together : (x y z : BatchView) (es fs : List EntryView) → y.entries ≡ x.entries ++ es → z.entries ≡ y.entries ++ fs
    → z.entries ≡ x.entries ++ (es ++ fs)
taken_together x y z es fs p q = q ∙ ap (λ xs. xs ++ fs) p ∙ append_assoc x.entries es fs
