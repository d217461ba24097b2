use Rattle.handle_cache.specs.Handles.{sections_in}
use Rattle.dump_workers.specs.TableKeys.{table_keys}
use Rattle.dump_workers.proofs.KeyLists.{contains_in, in_contains, in_table_key, key_in_table, table_distinct}
use Rattle.dump_workers.proofs.laws.table_keys_are_the_files_keys.Goals as goal

pub returns-clause-each : goal.returns-clause-each
returns-clause-each c k =
    let s = sections_in c.args.handle.now in (
      λ there. in_table_key s k (contains_in (table_keys s) k there),
      λ uses. in_contains (table_keys s) k (key_in_table s k uses),
    )

pub returns-clause-once : goal.returns-clause-once
returns-clause-once c = table_distinct (sections_in c.args.handle.now)
