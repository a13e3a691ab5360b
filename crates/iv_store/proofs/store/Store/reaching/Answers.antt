use Rattle.std.proofs.Common.{◌≡◌, ◌∙◌, ◌<◌, ◌≤◌, List, ap, get_or, length, subst, sym}
use Rattle.iv_store.specs.Concerned.{reaches_some}
use Rattle.iv_store.specs.Store.{Store}
use Rattle.iv_readers.specs.Readers.{RoleCircuit}
use Rattle.iv_readers.proofs.Held.{get_or-own_reader}
use Rattle.iv_store.proofs.ListPairs.{map-take_next, map-take_whole}
use Rattle.iv_store.proofs.store.Store.reaching.Goals as goal

pub loop-place-preserved : goal.loop-place-preserved
loop-place-preserved c =
    let e = c.args.self.now in
    let i = c.loop-place.place in
    let circuits = ap (λ (v : Store). v.circuits) c.self.view_is in
    let low : i < length e.circuits = subst (λ n. i < n) (c.len-place-end.ensures ∙ ap (λ (ks : List RoleCircuit). length ks) circuits) c.loop-place-test.true in
    let k = get_or-own_reader e.circuits i low in
    let here = subst (λ (ks : List RoleCircuit). k.0 ≡ get_or ks i k.0) (sym circuits) k.1 in
    let one : c.reaches.result ≡ reaches_some e.known.rights k.0.role c.args.other = c.reaches.ensures ∙ ap (λ role. reaches_some e.known.rights role c.args.other) (c.role.ensures k.0 here) in
    map-take_next (λ x. reaches_some e.known.rights x.role c.args.other) e.circuits i k.0 _ c.loop-place.flags.items c.push.new.self.items low k.1 c.loop-place.invariant one c.in_ok-push.ensures.items

pub returns : goal.returns
returns c =
    let e = c.args.self.now in
    let i = c.loop-place.place in
    let out : length e.circuits ≤ i = subst (λ n. n ≤ i) (c.len-place-end.ensures ∙ ap (λ (v : Store). length v.circuits) c.self.view_is) c.loop-place-test.false in
    map-take_whole (λ x. reaches_some e.known.rights x.role c.args.other) e.circuits i c.loop-place.flags.items out c.loop-place.invariant
