use Rattle.std.specs.Prelude.{[], ◌∷◌}
use Rattle.handle_cache.proofs.WordLaws.{each_word}
use Rattle.handle_cache.proofs.words.words_of_facts.Goals as goal

pub returns-clause-each : goal.returns-clause-each
returns-clause-each c =
    each_word
    (c.word_of_fact.result ∷ c.word_of_fact-2.result ∷ c.word_of_fact-3.result ∷ c.word_of_fact-4.result ∷ c.word_of_fact-5.result
    ∷ c.word_of_fact-6.result ∷ c.word_of_fact-7.result ∷ c.word_of_fact-8.result ∷ []) (
      c.word_of_fact.ensures.word,
      (
        c.word_of_fact-2.ensures.word,
        (
          c.word_of_fact-3.ensures.word,
          (
            c.word_of_fact-4.ensures.word,
            (c.word_of_fact-5.ensures.word, (c.word_of_fact-6.ensures.word, (c.word_of_fact-7.ensures.word, (c.word_of_fact-8.ensures.word, tt)))),
          ),
        ),
      ),
    )
