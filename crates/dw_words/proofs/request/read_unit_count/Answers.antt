use Rattle.dw_words.proofs.request.read_unit_count.Goals as goal

pub returns-in-Some-clause-few : goal.returns-in-Some-clause-few
returns-in-Some-clause-few c = (c.if-count-ge1.true, c.if-count-le-MOST_UNITS.true)
