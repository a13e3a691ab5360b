-- Circuits after those are dropped that no open subscription reads.
use Rattle.std.proofs.Common.{◌≡◌, true}
use Rattle.std.specs.Prelude.{filter, is_some}
use Rattle.std.specs.List.{AllByRecursion}
use Rattle.iv_machine.specs.State.{Subscription, actor, is_open}
use Rattle.iv_machine.proofs.SubscriptionPlaces.{all_kept}
use Rattle.iv_store.specs.Finished.{without_unread}
use Rattle.iv_store.specs.Store.{IsOpen, Store, frame_of, is_read, place_of}
use Rattle.iv_readers.specs.Readers.{RoleCircuit}
use Rattle.iv_store.proofs.Beside.{same-is_for}
use Rattle.iv_readers.proofs.Lists.{AllByRecursion-map, AllByRecursion-zip}
use Rattle.iv_store.proofs.Unread.{is_some-position_filter, list_any-session_acts_as}

module _ (e : Store) where
  -- those that are left have what all had, and are read
  pub left_have : (P : RoleCircuit → Type 0) → AllByRecursion P e.circuits → AllByRecursion P (filter (is_read (frame_of e)) e.circuits)
  left_have P a = all_kept P P (is_read (frame_of e)) (λ k b h. h) e.circuits a

  pub left_read : (P : RoleCircuit → Type 0) → AllByRecursion P e.circuits → AllByRecursion (λ k. is_read (frame_of e) k ≡ true) (filter (is_read (frame_of e)) e.circuits)
  left_read P a = all_kept P (λ k. is_read (frame_of e) k ≡ true) (is_read (frame_of e)) (λ k b h. b) e.circuits a

  -- and each open subscription still finds its circuit
  abbrev Reads : Subscription → Type 0
  Reads s = (k : RoleCircuit) → k.role ≡ actor (frame_of e) s.session → k.rel ≡ s.rel → is_read (frame_of e) k ≡ true

  one_there : (s : Subscription) → Reads s → is_some (place_of e s) ≡ true → is_some (place_of (without_unread e) s) ≡ true
  one_there s own there =
      let role = actor (frame_of e) s.session in
      is_some-position_filter (frame_of e) role s.rel e.circuits (λ k t. let b = same-is_for role s.rel k t in own k b.0 b.1) there

  pub left_there : AllByRecursion (IsOpen e) e.subscriptions → AllByRecursion (λ s. is_some (place_of e s) ≡ true) e.subscriptions
      → AllByRecursion (λ s. is_some (place_of (without_unread e) s) ≡ true) e.subscriptions
  left_there shows there =
      AllByRecursion-zip Reads (λ s. is_some (place_of e s) ≡ true) (λ s. is_some (place_of (without_unread e) s) ≡ true) e.subscriptions one_there
      (list_any-session_acts_as (frame_of e) e.subscriptions
      (AllByRecursion-map (IsOpen e) (λ s. is_open (frame_of e) s.session ≡ true) e.subscriptions (λ s o. o.session) shows)) there
