use Rattle.std.proofs.Common.{◌≡◌, ◌∙◌, ◌<◌, ◌≤◌, List, ap, length, not, subst}
use Rattle.iv_store.specs.Store.{Store, role_reads}
use Rattle.iv_readers.specs.Readers.{RoleCircuit}
use Rattle.iv_readers.proofs.Held.{get_or-own_reader}
use Rattle.iv_store.proofs.ListPairs.{map-take_next, map-take_whole}
use Rattle.iv_store.proofs.store.Store.unreadable.Goals as goal

pub is_unreadable-requires-clause-reader : goal.is_unreadable-requires-clause-reader
is_unreadable-requires-clause-reader c = subst (λ n. c.loop-place.place < n) (c.len-place-end.ensures ∙ ap (λ (v : Store). length v.circuits) c.self.view_is) c.loop-place-test.true

pub loop-place-preserved : goal.loop-place-preserved
loop-place-preserved c =
    let e = c.args.self.now in
    let i = c.loop-place.place in
    let circuits = ap (λ (v : Store). v.circuits) c.self.view_is in
    let low : i < length e.circuits = subst (λ n. i < n) (c.len-place-end.ensures ∙ ap (λ (ks : List RoleCircuit). length ks) circuits) c.loop-place-test.true in
    let k = get_or-own_reader e.circuits i low in
    let one : c.is_unreadable.result ≡ not (role_reads e k.0.role k.0.rel) = c.is_unreadable.ensures k.0 k.1 in
    map-take_next (λ x. not (role_reads e x.role x.rel)) e.circuits i k.0 _ c.loop-place.flags.items c.push.new.self.items low k.1 c.loop-place.invariant one c.in_ok-push.ensures.items

pub returns : goal.returns
returns c =
    let e = c.args.self.now in
    let i = c.loop-place.place in
    let out : length e.circuits ≤ i = subst (λ n. n ≤ i) (c.len-place-end.ensures ∙ ap (λ (v : Store). length v.circuits) c.self.view_is) c.loop-place-test.false in
    map-take_whole (λ x. not (role_reads e x.role x.rel)) e.circuits i c.loop-place.flags.items out c.loop-place.invariant
