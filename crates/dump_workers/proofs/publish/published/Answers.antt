use Rattle.std.proofs.Common.{◌≡◌, ◌∙◌, ℕ, ap, sym, subst, length, min}
use Rattle.map_core.specs.declared.layout.Layout.{Layout}
use Rattle.map_core.specs.Calls.{own}
use Rattle.handle_cache.specs.Handles.{sections_in}
use Rattle.handle_cache.specs.Scanned.{room_for}
use Rattle.dump_workers.specs.TableKeys.{table_keys}
use Rattle.dump_workers.proofs.KeyLists.{size_held}
use Rattle.dump_workers.proofs.publish.published.Goals as goal

pub returns-clause-file : goal.returns-clause-file
returns-clause-file c all holds =
    let p = c.args.pass.now in
    let s = sections_in c.args.handle.now in
    let n : ℕ = length (own p.knows) in
    let t : ℕ = length (table_keys s) in
    let room : p.knows.layout.capacity ≡ room_for s =
    ap (λ (l : Layout). l.capacity) c.requires.belongs.of_table.layout ∙ sym c.capacity.ensures.table ∙ c.capacity.ensures.room in
    let here : c.min.result ≡ min n (room_for s) = c.min.ensures ∙ ap (λ (x : ℕ). min x c.capacity.result) c.placed.ensures ∙ ap (min n) c.capacity.ensures.room in
    let held : min n p.knows.layout.capacity ≡ min t p.knows.layout.capacity = size_held s p _ c.recall.ensures.legal (c.recall.ensures.whole c.requires.first all) holds in
    here ∙ subst (λ (x : ℕ). min n x ≡ min t x) room held
