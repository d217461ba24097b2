-- The words in which a refusal of words shows itself to a program's user.
use Rattle.std.specs.Prelude.{ℕ, List, codes}
use Rattle.dw_words.specs.declared.refusals.WordsRefusal.{WordsRefusal}
use Rattle.dw_words.specs.declared.refusals.WordsRefusal.TheVariants as refusals

abbrev pub words_message : WordsRefusal → List ℕ
words_message refusals.NoMeaning = codes "words not understood"
words_message refusals.OutOfMemory = codes "out of memory"
