-- In a gateway that is in step, clients see their views.
use Rattle.std.proofs.Common.{◌≡◌, ℕ, Bool, true, false, cond, List, [], ◌∷◌, length, Option, Some, None, is_some, option_map, refl, ap, ◌∙◌, sym, subst, pos}
use Rattle.std.specs.Prelude.{◌==◌, find, unwrap_or}
use Rattle.std.specs.List.{AllByRecursion}
use Rattle.std.proofs.lemmas.Bool.{eqb-true}
use Rattle.iv_rows.specs.Cell.{Cell}
use Rattle.iv_rows.specs.Options.{if_some}
use Rattle.iv_zset.specs.Limits.{copies}
use Rattle.iv_zset.specs.Weights.{weight_of}
use Rattle.iv_access.specs.Access.{role_number}
use Rattle.iv_access.specs.Rights.{Name}
use Rattle.iv_machine.specs.Machine.{ending, first_cause}
use Rattle.iv_machine.specs.Sound.{IsSoundState}
use Rattle.iv_machine.specs.declared.Cause.{Cause}
use Rattle.iv_machine.specs.State.{Session, State, Subscription, is_within_for, missing_for, rel_of, shown, subscription_of, view_for}
use Rattle.iv_clients.specs.Clients.{Client, Sub, followed_by, told}
use Rattle.iv_clients.specs.Feeds.{Feed, feed_of, rel_read}
use Rattle.iv_clients.proofs.Slots.{same-Some, not_None-Some}
use Rattle.iv_gate.specs.Gate.{Gate}
use Rattle.iv_gate.specs.Replies.{IsAskedBy, IsClient}
use Rattle.iv_gate.specs.Seen.{all_rows, has_ended, hindrance, seen}
use Rattle.iv_gate.proofs.SameFeeds.{shown-IsFeed}
use Rattle.iv_gate.proofs.MachineLists.{true-find}
use Rattle.iv_gate.proofs.SoundSteps.{AllByRecursion-feed_of}
use Rattle.iv_gate.proofs.SoundCommands.{IsAskedIn, IsFeed, IsFollowing, IsSoundGate, seer}

-- it was told no end, and what it was told adds up to what its role sees of the relation of its feed
pub record AddsToView (g : Gate) (c : Client) (own k : ℕ) : Type 0 where
  pub asked : IsAskedBy c own (rel_read g.feeds k)
  pub follows : has_ended c own ≡ false
  pub sum : (q : List Cell) → weight_of (all_rows own (told c)) q ≡ pos (copies q (seen g.machine c.role (rel_read g.feeds k)))

asked_by : (c : Client) (own : ℕ) (rel : Name) → IsAskedIn c.messages (told c) own rel → IsAskedBy c own rel
asked_by c own rel a = (a.place, a.id, a.columns, (a.text, a.there, a.asks, a.reply))

pub AddsToView-IsSoundGate : (g : Gate) → IsSoundGate g → (m : ℕ) (c : Client) (own k : ℕ) → IsClient g m c → followed_by c.subs own ≡ Some k
    → AddsToView g c own k
AddsToView-IsSoundGate g b m c own k x h = look c.subs (b.clients m c x.there x.stays).follows h
  where
    of_sub : (s : Sub) → (own == s.own) ≡ true → s.feed ≡ k → IsFollowing g.machine g.feeds (seer c) s → AddsToView g c own k
    of_sub s e f y =
        let same : own ≡ s.own = eqb-true own s.own e in
        let there : feed_of g.feeds k ≡ Some y.feed = ap (feed_of g.feeds) (sym f) ∙ y.found in
        let number : k ≡ y.feed.number = eqb-true k y.feed.number (true-find (λ (z : Feed). k == z.number) g.feeds y.feed there) in
        let rel : rel_read g.feeds k ≡ y.feed.rel = ap (λ o. if_some o [] (λ (z : Feed). z.rel)) there in
        let shows = shown-IsFeed g.machine y.feed (AllByRecursion-feed_of (IsFeed g.machine) g.feeds k y.feed b.feeds there) in
        record {
          asked = subst (λ i. IsAskedBy c i (rel_read g.feeds k)) (sym same) (subst (IsAskedBy c s.own) (sym rel) (asked_by c s.own y.feed.rel y.asked));
          follows = ap (has_ended c) same ∙ y.goes_on;
          sum = λ q. ap (λ i. weight_of (all_rows i (told c)) q) same ∙ (y.sum q ∙ ap (λ rows. pos (copies q rows))
              (ap (shown g.machine) (f ∙ number) ∙ (shows ∙ (λ i. view_for g.machine (role_number g.machine.frame.rights (y.role i)) (rel_of g.machine.frame.catalog (sym rel i))))));
        }

    look : (xs : List Sub) → AllByRecursion (IsFollowing g.machine g.feeds (seer c)) xs → followed_by xs own ≡ Some k → AddsToView g c own k
    look [] a e = absurd (not_None-Some k (sym e))
    look (s ∷ ss) a e = by (own == s.own) refl e (λ z. look ss a.1 z)
      where
        by : (t : Bool) → (own == s.own) ≡ t → option_map (λ (z : Sub). z.feed) (cond t (Some s) (find (λ (z : Sub). own == z.own) ss)) ≡ Some k → (followed_by ss own ≡ Some k → AddsToView g c own k) → AddsToView g c own k
        by true t z more = of_sub s t (same-Some s.feed k z) a.0
        by false t z more = more z

-- ---- what is read may be read

sub_served : (s : State) (es : List Subscription) (j : ℕ) (x : Subscription) → AllByRecursion (λ e. ending s e ≡ None) es → subscription_of es j ≡ Some x → ending s x ≡ None
sub_served s [] j x a h = absurd (not_None-Some x (sym h))
sub_served s (e ∷ es) j x a h = by (j == e.number) h (λ k. sub_served s es j x a.1 k)
  where
    by : (b : Bool) → cond b (Some e) (subscription_of es j) ≡ Some x → (subscription_of es j ≡ Some x → ending s x ≡ None) → ending s x ≡ None
    by true k more = subst (λ z. ending s z ≡ None) (same-Some e x k) a.0
    by false k more = more k

may_read : (s : State) (f : Feed) → IsSoundState s → IsFeed s f → hindrance s f.role f.rel ≡ None
may_read s f b x =
    let P : ℕ → ℕ → Option Cause = λ r n. first_cause (is_some (missing_for s.frame r n)) (is_within_for s r n) in
    ap (λ o. P (unwrap_or o (length s.frame.rights.roles)) (rel_of s.frame.catalog f.rel)) x.acts.known
    ∙ (sym (λ i. P (unwrap_or (option_map (λ (e : Session). e.role) (x.acts.session i)) (length s.frame.rights.roles)) (x.there i))
    ∙ sub_served s s.frame.subscriptions f.number (record { session = f.session; number = f.number; rel = x.rel }) b.served x.found)

pub hindrance-IsSoundGate : (g : Gate) → IsSoundGate g → (m : ℕ) (c : Client) (own k : ℕ) → IsClient g m c → followed_by c.subs own ≡ Some k → hindrance g.machine c.role (rel_read g.feeds k) ≡ None
hindrance-IsSoundGate g b m c own k x h = look c.subs (b.clients m c x.there x.stays).follows h
  where
    of_sub : (s : Sub) → s.feed ≡ k → IsFollowing g.machine g.feeds (seer c) s → hindrance g.machine c.role (rel_read g.feeds k) ≡ None
    of_sub s f y =
        let there : feed_of g.feeds k ≡ Some y.feed = ap (feed_of g.feeds) (sym f) ∙ y.found in
        let rel : rel_read g.feeds k ≡ y.feed.rel = ap (λ o. if_some o [] (λ (z : Feed). z.rel)) there in
        (λ i. hindrance g.machine (sym y.role i) (rel i)) ∙ may_read g.machine y.feed b.state
        (AllByRecursion-feed_of (IsFeed g.machine) g.feeds k y.feed b.feeds there)

    look : (xs : List Sub) → AllByRecursion (IsFollowing g.machine g.feeds (seer c)) xs → followed_by xs own ≡ Some k → hindrance g.machine c.role (rel_read g.feeds k) ≡ None
    look [] a e = absurd (not_None-Some k (sym e))
    look (s ∷ ss) a e = by (own == s.own) e (λ z. look ss a.1 z)
      where
        by : (t : Bool) → option_map (λ (z : Sub). z.feed) (cond t (Some s) (find (λ (z : Sub). own == z.own) ss)) ≡ Some k → (followed_by ss own ≡ Some k → hindrance g.machine c.role (rel_read g.feeds k) ≡ None)
            → hindrance g.machine c.role (rel_read g.feeds k) ≡ None
        by true z more = of_sub s (same-Some s.feed k z) a.0
        by false z more = more z
