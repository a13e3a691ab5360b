use Rattle.std.proofs.Common.{◌≡◌, ◌∙◌, ◌<◌, ◌≤◌, List, ap, get_or, length, subst, sym}
use Rattle.std.specs.Prelude.{◌==◌}
use Rattle.std.specs.List.{list_any}
use Rattle.iv_circuit.specs.Circuits.{Running}
use Rattle.iv_circuit.specs.Nodes.{scans_of}
use Rattle.iv_readers.proofs.Lists.{AllByRecursion-get_or}
use Rattle.iv_store.specs.Counting.{scans_at}
use Rattle.iv_store.specs.Store.{Store}
use Rattle.iv_readers.specs.Readers.{RoleCircuit}
use Rattle.iv_store.specs.Turned.{WasRead}
use Rattle.iv_store.proofs.CircuitFlags.{list_any-WasRead}
use Rattle.iv_readers.proofs.Held.{get_or-own_reader}
use Rattle.iv_store.proofs.ListPairs.{map-take_next, map-take_whole}
use Rattle.iv_store.proofs.store.Store.scanning.Goals as goal

pub loop-place-preserved : goal.loop-place-preserved
loop-place-preserved c =
    let e = c.args.self.now in
    let i = c.loop-place.place in
    let circuits = ap (λ (v : Store). v.circuits) c.self.view_is in
    let low : i < length e.circuits = subst (λ n. i < n) (c.len-place-end.ensures ∙ ap (λ (ks : List RoleCircuit). length ks) circuits) c.loop-place-test.true in
    let k = get_or-own_reader e.circuits i low in
    let here = subst (λ (ks : List RoleCircuit). k.0 ≡ get_or ks i k.0) (sym circuits) k.1 in
    let table = c.args.table.0 in
    let was = AllByRecursion-get_or (WasRead e) e.circuits i k.0 c.requires low k.1 in
    let one : c.scans.result ≡ scans_at e.catalog k.0.rel table = c.scans.ensures ∙ ap (λ (x : Running). list_any (λ s. s.table == table) (scans_of x.node)) (c.circuit.ensures k.0 here) ∙ list_any-WasRead e k.0 table was in
    map-take_next (λ x. scans_at e.catalog x.rel table) e.circuits i k.0 _ c.loop-place.flags.items c.push.new.self.items low k.1 c.loop-place.invariant one c.in_ok-push.ensures.items

pub returns : goal.returns
returns c =
    let e = c.args.self.now in
    let i = c.loop-place.place in
    let out : length e.circuits ≤ i = subst (λ n. n ≤ i) (c.len-place-end.ensures ∙ ap (λ (v : Store). length v.circuits) c.self.view_is) c.loop-place-test.false in
    map-take_whole (λ x. scans_at e.catalog x.rel c.args.table.0) e.circuits i c.loop-place.flags.items out c.loop-place.invariant
