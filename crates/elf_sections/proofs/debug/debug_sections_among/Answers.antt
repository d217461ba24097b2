use Rattle.std.proofs.Common.{◌≡◌, ◌<◌, ◌^◌, length, Option, Some, None, option_map, IfSome, List, ℕ, Bor, arith, refl}
use Rattle.elf_sections.specs.Shapes.{SectionsView, sections_of}
use Rattle.elf_sections.proofs.debug.debug_sections_among.Goals as goal

seen_short : (r : Option (Bor (List ℕ))) → IfSome r (λ b. length b.now < 2 ^ 31) → IfSome (option_map (λ b. b.now) r) (λ b. length b < 2 ^ 32)
seen_short None h = h
seen_short (Some b) h = omega (arith, h)

same_view : (s t : SectionsView) → s.order ≡ t.order → s.info ≡ t.info → s.«abbrev» ≡ t.«abbrev» → s.text ≡ t.text → s.line_text ≡ t.line_text
    → s.text_offsets ≡ t.text_offsets → s.address ≡ t.address → s.range_lists ≡ t.range_lists → s.location_lists ≡ t.location_lists
    → s.line ≡ t.line → s.ranges ≡ t.ranges → s.locations ≡ t.locations → s.frame ≡ t.frame → s ≡ t
same_view s t e1 e2 e3 e4 e5 e6 e7 e8 e9 e10 e11 e12 e13 = λ i. record {
  order = e1 i;
  info = e2 i;
  «abbrev» = e3 i;
  text = e4 i;
  line_text = e5 i;
  text_offsets = e6 i;
  address = e7 i;
  range_lists = e8 i;
  location_lists = e9 i;
  line = e10 i;
  ranges = e11 i;
  locations = e12 i;
  frame = e13 i;
}

pub returns-clause-sections : goal.returns-clause-sections
unfolding sections_of
returns-clause-sections c = same_view _ _ refl c.first_named_or_empty.ensures.bytes c.first_named_or_empty-2.ensures.bytes
    c.first_named.ensures.bytes c.first_named-2.ensures.bytes c.first_named-3.ensures.bytes c.first_named-4.ensures.bytes
    c.first_named-5.ensures.bytes c.first_named-6.ensures.bytes c.first_named-7.ensures.bytes c.first_named-8.ensures.bytes
    c.first_named-9.ensures.bytes c.first_named-10.ensures.bytes

pub returns-clause-short : goal.returns-clause-short
returns-clause-short c = record {
  info = omega (arith, c.first_named_or_empty.ensures.short);
  «abbrev» = omega (arith, c.first_named_or_empty-2.ensures.short);
  text = seen_short _ c.first_named.ensures.short;
  line_text = seen_short _ c.first_named-2.ensures.short;
  text_offsets = seen_short _ c.first_named-3.ensures.short;
  address = seen_short _ c.first_named-4.ensures.short;
  range_lists = seen_short _ c.first_named-5.ensures.short;
  location_lists = seen_short _ c.first_named-6.ensures.short;
  line = seen_short _ c.first_named-7.ensures.short;
  ranges = seen_short _ c.first_named-8.ensures.short;
  locations = seen_short _ c.first_named-9.ensures.short;
  frame = seen_short _ c.first_named-10.ensures.short;
}
