use Rattle.std.proofs.Common.{◌≡◌, ◌-◌, ◌∙◌, ap, arith, length}
use Rattle.iv_store.specs.Store.{Store}
use Rattle.iv_store.proofs.ListPairs.{map-replicate_true}
use Rattle.iv_store.proofs.store.Store.all_concerned.Goals as goal

pub returns : goal.returns
returns c =
    let circuits = c.args.self.now.circuits in
    let many : c.len.result ≡ length circuits = c.len.ensures ∙ ap (λ (v : Store). length v.circuits) c.self.view_is in
    let none = c.new-flags.ensures.len in
    map-replicate_true circuits c.len.result _ c.new-flags.result.items c.resize.new.self.items c.new-flags.ensures.items (omega (arith, many, none)) c.in_ok-resize.ensures.items
