-- A session that begins tells nobody anything, and changes nothing but the sessions.
use Rattle.std.proofs.Common.{◌≡◌, ℕ, Bool, true, false, not, cond, List, [], ◌∷◌, ◌++◌, map, length, Option, Some, None, is_some, option_map, refl, ap, ◌∙◌, sym, subst, ℤ, pos, arith}
use Rattle.std.specs.Prelude.{◌==◌, ◌-ℤ◌, filter, flat_map, unwrap_or}
use Rattle.std.specs.Ordering.{int_eq}
use Rattle.std.specs.List.{AllByRecursion}
use Rattle.std.proofs.lemmas.Int.{ints}
use Rattle.iv_rows.specs.Cell.{Cell}
use Rattle.iv_rows.specs.Options.{if_some}
use Rattle.iv_zset.specs.Limits.{copies}
use Rattle.iv_access.specs.Rights.{Name}
use Rattle.iv_machine.specs.Act.{begin, Refusal, Reply, done, refused, reply}
use Rattle.iv_machine.specs.Changing.{after}
use Rattle.iv_machine.specs.Machine.{changes, difference, ending, ending_by, first_cause, is_change, line_for, lines_told, outcome, settled, step, weighted}
use Rattle.iv_machine.specs.Refusing.{refusal}
use Rattle.iv_machine.specs.Sound.{IsSoundState, MayRead}
use Rattle.iv_machine.specs.State.{Session, State, Subscription, actor, is_within_for, missing_for, shown, subscription_of, view_for, view_shown}
use Rattle.iv_machine.proofs.SubscriptionPlaces.{find_kept}
use Rattle.iv_machine.proofs.Sound.{MayRead-IsWhole, IsWhole-IsSoundState}
use Rattle.iv_message.specs.Told.{granted}
use Rattle.iv_clients.specs.Clients.{Sub, own_line, own_lines}
use Rattle.iv_clients.specs.Feeds.{Feed}
use Rattle.iv_clients.proofs.Slots.{same-Some, not_None-Some}
use Rattle.iv_gate.specs.Gate.{Gate, in_session, is_accepted, reply_in}
use Rattle.iv_gate.proofs.NoReplies.{BeginsQuietly}
use Rattle.iv_gate.proofs.NumberSums.{AllByRecursion-zip}

-- ---- what stays the same has no difference

zero_less : (z : ℤ) → z -ℤ z ≡ pos 0
zero_less z = omega (arith, ints)

none_changes : (rows : List (List Cell)) (all : List (List Cell)) → filter is_change (map (weighted all all) rows) ≡ []
none_changes [] all = refl
none_changes (r ∷ rows) all =
    ap (λ z. cond (not (int_eq z (pos 0))) ((r, pos (copies r all) -ℤ pos (copies r all)) ∷ filter is_change (map (weighted all all) rows)) (filter is_change (map (weighted all all) rows))) (zero_less (pos (copies r all)))
    ∙ none_changes rows all

no_difference : (rows : List (List Cell)) → difference rows rows ≡ []
no_difference rows = none_changes _ rows

-- ---- lists

pub filter_whole : {X : Type 0} (q : X → Bool) (xs : List X) → AllByRecursion (λ x. q x ≡ true) xs → filter q xs ≡ xs
filter_whole q [] a = refl
filter_whole q (x ∷ xs) a = ap (λ b. cond b (x ∷ filter q xs) (filter q xs)) a.0 ∙ ap (λ z. x ∷ z) (filter_whole q xs a.1)

pub sub_has : (P : Subscription → Type 0) (es : List Subscription) (j : ℕ) (x : Subscription) → AllByRecursion P es → subscription_of es j ≡ Some x → P x
sub_has P [] j x a h = absurd (not_None-Some x (sym h))
sub_has P (e ∷ es) j x a h = by (j == e.number) h (λ k. sub_has P es j x a.1 k)
  where
    by : (b : Bool) → cond b (Some e) (subscription_of es j) ≡ Some x → (subscription_of es j ≡ Some x → P x) → P x
    by true k more = subst P (same-Some e x k) a.0
    by false k more = more k

flat_none : {X Y : Type 0} (f : X → List Y) (xs : List X) → AllByRecursion (λ x. f x ≡ []) xs → flat_map f xs ≡ []
flat_none f [] a = refl
flat_none f (x ∷ xs) a = (λ i. a.0 i ++ flat_none f xs a.1 i)

-- ---- the machine

module _ (s : State) (n : ℕ) (role : Name) (b : IsSoundState s) where
  changed : State
  changed = after s n (begin role)

  readers : AllByRecursion (MayRead s.frame) s.frame.subscriptions
  readers = MayRead-IsWhole s (IsWhole-IsSoundState s b)

  actor_kept : (e : Subscription) → MayRead s.frame e → actor (after s n (begin role)).frame e.session ≡ actor s.frame e.session
  actor_kept e m = ap (λ o. unwrap_or (option_map (λ (x : Session). x.role) o) (length s.frame.rights.roles)) (find_kept (λ (x : Session). e.session == x.number) s.frame.sessions _ m.session)

  none_ends : AllByRecursion (λ e. ending (after s n (begin role)) e ≡ None) s.frame.subscriptions
  none_ends = AllByRecursion-zip {P = λ e. ending s e ≡ None} {Q = MayRead s.frame} {R = λ e. ending (after s n (begin role)) e ≡ None}
      (λ e x m. ap (λ r. first_cause (is_some (missing_for s.frame r e.rel)) (is_within_for s r e.rel)) (actor_kept e m) ∙ x) s.frame.subscriptions b.served readers

  kept_all : filter (λ e. not (is_some (ending (after s n (begin role)) e))) s.frame.subscriptions ≡ s.frame.subscriptions
  kept_all = filter_whole (λ e. not (is_some (ending (after s n (begin role)) e))) s.frame.subscriptions
      (AllByRecursion-zip {P = λ e. ending (after s n (begin role)) e ≡ None} {Q = λ e. ending (after s n (begin role)) e ≡ None} {R = λ e. not (is_some (ending (after s n (begin role)) e)) ≡ true}
      (λ e x y. ap (λ o. not (is_some o)) x) s.frame.subscriptions none_ends none_ends)

  -- nothing but the sessions changes
  pub begun_state : settled (begin role) (after s n (begin role)) ≡ record s { frame = record s.frame { sessions = (after s n (begin role)).frame.sessions } }
  begun_state = ap (λ es. record (after s n (begin role)) { frame = record (after s n (begin role)).frame { subscriptions = es } }) kept_all

  shown_kept : (j : ℕ) → shown (settled (begin role) (after s n (begin role))) j ≡ shown s j
  shown_kept j = ap (λ es. if_some (subscription_of es j) [] (view_shown (settled (begin role) (after s n (begin role))))) kept_all ∙ by (subscription_of s.frame.subscriptions j) refl
    where
      by : (o : Option Subscription) → subscription_of s.frame.subscriptions j ≡ o → if_some o [] (view_shown (settled (begin role) (after s n (begin role)))) ≡ if_some o [] (view_shown s)
      by None h = refl
      by (Some x) h = ap (λ r. view_for s r x.rel) (actor_kept x (sub_has (MayRead s.frame) s.frame.subscriptions j x readers h))

  no_line : (e : Subscription) → ending (after s n (begin role)) e ≡ None → line_for s (settled (begin role) (after s n (begin role))) (ending_by (begin role) (after s n (begin role))) e ≡ []
  no_line e h = (λ i. lines_told (h i) e (difference (shown s e.number) (shown_kept e.number i))) ∙ ap (lines_told None e) (no_difference (shown s e.number))

  no_changes : changes (begin role) s (after s n (begin role)) (settled (begin role) (after s n (begin role))) ≡ []
  no_changes = flat_none (line_for s (settled (begin role) (after s n (begin role))) (ending_by (begin role) (after s n (begin role)))) s.frame.subscriptions
      (AllByRecursion-zip {P = λ e. ending (after s n (begin role)) e ≡ None} {Q = λ e. ending (after s n (begin role)) e ≡ None}
      {R = λ e. line_for s (settled (begin role) (after s n (begin role))) (ending_by (begin role) (after s n (begin role))) e ≡ []} (λ e x y. no_line e x) s.frame.subscriptions none_ends none_ends)

  replied_alone : (feeds : List Feed) (r : Reply) (xs : List Sub) → own_lines feeds (reply n r ∷ []) xs ≡ []
  replied_alone feeds r xs = (λ i. none xs i ++ [])
    where
      none : (ys : List Sub) → flat_map (own_line feeds (reply n r)) ys ≡ []
      none [] = refl
      none (y ∷ ys) = none ys

  tells_none : (feeds : List Feed) (xs : List Sub) (o : Option Refusal) → own_lines feeds (outcome s (in_session n (begin role)) o).lines xs ≡ []
  tells_none feeds xs (Some r) = replied_alone feeds (refused r) xs
  tells_none feeds xs None = ap (λ ls. own_lines feeds (reply n done ∷ ls) xs) no_changes ∙ replied_alone feeds done xs

pub BeginsQuietly-IsSoundState : (g : Gate) → IsSoundState g.machine → BeginsQuietly g
BeginsQuietly-IsSoundState g b n role c = (λ i. tells_none g.machine n role b g.feeds c.subs (refusal g.machine n (begin role)) i ++ grants i)
  where
    grants : cond (is_accepted (reply_in (step g.machine (in_session n (begin role))).lines)) (map granted []) [] ≡ []
    grants = by (is_accepted (reply_in (step g.machine (in_session n (begin role))).lines))
      where
        by : (t : Bool) → cond t (map granted []) [] ≡ []
        by true = refl
        by false = refl
