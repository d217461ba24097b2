-- How a contract sees entries and their attributes: without where they lie in memory.
use Rattle.std.specs.Prelude.{ℕ, List, map}
use Rattle.form_values.specs.View.{RawView, raw_view}
use Rattle.entry_tree.specs.declared.entry.Attr.{Attr}
use Rattle.entry_tree.specs.declared.entry.Entry.{Entry}

pub record AttrView : Type 0 where
  pub name : ℕ
  pub form : ℕ
  pub place : ℕ
  pub raw : RawView

pub record EntryView : Type 0 where
  pub place : ℕ
  pub depth : ℕ
  pub code : ℕ
  pub tag : ℕ
  pub attrs : List AttrView

abbrev pub attr_view : Attr → AttrView
attr_view a = record { name = a.name; form = a.form; place = a.place; raw = raw_view a.raw }

abbrev pub entry_view : Entry → EntryView
entry_view e =
    record {
      place = e.place;
      depth = e.depth;
      code = e.code;
      tag = e.tag;
      attrs = map attr_view e.attrs.now;
    }
