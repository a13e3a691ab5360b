use Rattle.std.proofs.Common.{◌≡◌, ◌∙◌, ◌<◌, Bool, List, ap, arith, false, get_or, length, map, rules, subst, sym}
use Rattle.std.proofs.lemmas.Fn.{filter_same}
use Rattle.std.proofs.lemmas.List.{with_items_is}
use Rattle.std.specs.Prelude.{Option, filter}
use Rattle.std.specs.List.{AllByRecursion}
use Rattle.std.specs.Vec.{with_items}
use Rattle.iv_circuit.specs.Circuits.{Running}
use Rattle.iv_readers.specs.Held.{AreLeftTo, Reading, read_from}
use Rattle.iv_readers.specs.Readers.{RoleCircuit}
use Rattle.iv_readers.proofs.Held.{filter_read, AreHeld-items_where_true}
use Rattle.iv_readers.proofs.Left.{left_shown, left_those}
use Rattle.iv_readers.proofs.ReadFlags.{lt-AreHeld}
use Rattle.iv_readers.proofs.readers.Readers.retain.Goals as goal

pub drop_unread-requires-clause-long : goal.drop_unread-requires-clause-long
drop_unread-requires-clause-long g c =
    ap (λ (bs : List Bool). length bs) c.deref_mut-2.ensures.value ∙ c.in_ok-flags.ensures.long ∙ c.len.ensures ∙ c.self.inside.held.ok.0 ∙ sym (ap (λ (xs : List (Option Running)). length xs) c.deref_mut.ensures.value)

pub drop_unread-requires-clause-unset : goal.drop_unread-requires-clause-unset
drop_unread-requires-clause-unset g c = λ i. ap (λ (bs : List Bool). get_or bs i false) c.deref_mut-2.ensures.value ∙ c.in_ok-flags.ensures.unset i

pub drop_unread-requires-clause-within : goal.drop_unread-requires-clause-within
drop_unread-requires-clause-within g c =
    let hs = c.self.inside.held.items in
    let rs = c.retain.new.self.items in
    let some = c.retain.ensures.filtered in
    let held = AreHeld-items_where_true hs some.0 c.self.inside.readers.items rs some.4 c.self.invariant.held in
    let long : length c.deref_mut-2.result.now ≡ length hs = ap (λ (bs : List Bool). length bs) c.deref_mut-2.ensures.value ∙ c.in_ok-flags.ensures.long ∙ c.len.ensures ∙ c.self.inside.held.ok.0 in
    subst (λ (xs : List Reading). AllByRecursion (λ r. r.at < length c.deref_mut-2.result.now) xs) (sym c.deref.ensures.value)
    (subst (λ n. AllByRecursion (λ (r : Reading). r.at < n) rs) (sym long) (lt-AreHeld hs rs held))

pub invariant_of-self : goal.invariant_of-self
invariant_of-self g c =
    let hs = c.self.inside.held.items in
    let rs = c.retain.new.self.items in
    let new = c.drop_unread.new.held in
    let alike = c.drop_unread.auto.held in
    let long = c.deref_mut.ensures.len in
    let is : (with_items c.self.inside.held new).items ≡ new = with_items_is c.self.inside.held new (omega (arith, alike, long)) in
    let left = subst (λ (xs : List (Option Running)). AreLeftTo rs xs new) c.deref_mut.ensures.value (subst (λ (xs : List Reading). AreLeftTo xs c.deref_mut.result.now new) c.deref.ensures.value c.drop_unread.ensures) in
    let some = c.retain.ensures.filtered in
    left_those rs hs _ (subst (AreLeftTo rs hs) (sym is) left) (AreHeld-items_where_true hs some.0 c.self.inside.readers.items rs some.4 c.self.invariant.held)

pub returns : goal.returns
returns g c = λ p told.
    let hs = c.self.inside.held.items in
    let was = c.self.inside.readers.items in
    let rs = c.retain.new.self.items in
    let new = c.drop_unread.new.held in
    let alike = c.drop_unread.auto.held in
    let long = c.deref_mut.ensures.len in
    let is : (with_items c.self.inside.held new).items ≡ new = with_items_is c.self.inside.held new (omega (arith, alike, long)) in
    let left = subst (λ (xs : List (Option Running)). AreLeftTo rs xs new) c.deref_mut.ensures.value (subst (λ (xs : List Reading). AreLeftTo xs c.deref_mut.result.now new) c.deref.ensures.value c.drop_unread.ensures) in
    let kept = filter_same _ (λ (r : Reading). p r.role r.rel) _ (λ r b f' t. search rules) was rs c.retain.ensures.filtered in
    left_shown rs hs _ (subst (AreLeftTo rs hs) (sym is) left) ∙ ap (map (read_from hs)) kept ∙ filter_read hs (λ k. p k.role k.rel) was ∙ ap (filter (λ (k : RoleCircuit). p k.role k.rel)) c.self.view_is
