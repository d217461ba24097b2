-- Lemmas on the loops over the entries of a list, and on what each entry moves.
pub mod EntriesLaws
pub mod PastLaws
pub mod Steps
