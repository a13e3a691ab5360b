use Rattle.std.proofs.Common.{◌≡◌, ◌+◌, ◌∙◌, Some, arith, bytes_eq, string_bytes}
use Rattle.std.specs.Prelude.{unwrap_or}
use Rattle.std.specs.BTreeMap.{get_by_text}
use Rattle.std.specs.Map.{update}
use Rattle.std.proofs.lemmas.Map.Text.{btree_map_updates_text}
use Rattle.iv_once.proofs.owns.spend.Goals as goal

pub returns : goal.returns
returns c = λ h.
    let e = btree_map_updates_text (string_bytes c.in_ok-key.key) c.args.spent.now c.insert.new.self (Some c.in-Some.count) c.in_ok-insert.ensures.updates h in
    let k : string_bytes c.in_ok-key.key ≡ c.args.holder.now = c.in_ok-key.ensures.ok in
    let n : c.in-Some.count ≡ unwrap_or (get_by_text c.args.spent.now c.args.holder.now) 0 + 1 = omega (arith, c.in-Some.ensures, c.spent_by.ensures) in
    e ∙ (λ i. update bytes_eq (get_by_text c.args.spent.now) (k i) (Some (n i)) h)
