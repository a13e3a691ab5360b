-- A client follows no more what it closed, for ever.
use Rattle.std.proofs.Common.{◌≡◌, ◌≤◌, ℕ, zero, suc, ◌+◌, ◌⊎◌, inl, inr, Bool, true, false, cond, List, [], ◌∷◌, ◌++◌, length, Option, Some, is_some, refl, ap, ◌∙◌, sym, subst, append-nil, arith}
use Rattle.std.specs.Prelude.{slice_get, codes}
use Rattle.std.proofs.lemmas.Bool.{false≢true}
use Rattle.serde_json.specs.Data.{Data}
use Rattle.iv_machine.specs.Act.{done, refused, unknown_subscription, unsubscribe}
use Rattle.iv_message.specs.Message.{Message, request, unknown}
use Rattle.iv_message.specs.Told.{Told, replied, unasked}
use Rattle.iv_clients.specs.Clients.{Client, fresh, told, followed_by}
use Rattle.iv_records.specs.Journal.{Entry, said_by, claim_said}
use Rattle.iv_clients.proofs.Slots.{not_None-Some}
use Rattle.iv_gate.specs.Gate.{Gate, may_have}
use Rattle.iv_gate.specs.Replies.{IsAnswered, is_opened, replies}
use Rattle.iv_gate.specs.Runs.{Runs}
use Rattle.iv_gate.specs.Seen.{IsClosed, StaysClosed}
use Rattle.iv_gate.proofs.ClientAnswers.{Came, Closes, OwnAnswer, IsAnswered-OwnAnswer, IsAnswered-Hears, IsAnswered-fresh, followed_by-not_is_own, replies-one_reply, is_reply-said_reply}
use Rattle.iv_gate.proofs.NoReplies.{Hears, is_own}
use Rattle.iv_gate.proofs.SoundRuns.{Came-Runs}
use Rattle.iv_gate.proofs.ReplyPlaces.{replies-append}
use Rattle.iv_gate.proofs.OwnReplies.{asked, is_own-before, said_reply}
use Rattle.iv_clients.specs.Tokens.{Token}

-- ---- lists

-- what stands at a place of a list with one more stood there before, or is the one
at_end : {X : Type 0} (xs : List X) (y : X) (i : ℕ) (x : X) → slice_get (xs ++ y ∷ []) i ≡ Some x → (slice_get xs i ≡ Some x) ⊎ ((i ≡ length xs) × (Some y ≡ Some x))
at_end [] y zero x h = inr (refl, h)
at_end [] y (suc i) x h = absurd (not_None-Some x (sym h))
at_end (z ∷ xs) y zero x h = inl h
at_end (z ∷ xs) y (suc i) x h = by (at_end xs y i x h)
  where
    by : (slice_get xs i ≡ Some x) ⊎ ((i ≡ length xs) × (Some y ≡ Some x)) → (slice_get xs i ≡ Some x) ⊎ ((suc i ≡ suc (length xs)) × (Some y ≡ Some x))
    by (inl k) = inl k
    by (inr k) = inr (ap suc k.0, k.1)

not_behind : {X : Type 0} (xs : List X) (i : ℕ) (x : X) → slice_get xs i ≡ Some x → i ≡ length xs → ⊥
not_behind [] i x h e = absurd (not_None-Some x (sym h))
not_behind (y ∷ ys) zero x h e = let no : ⊥ = omega (arith, e) in no
not_behind (y ∷ ys) (suc i) x h e = not_behind ys i x h (one_less i (length ys) e)
  where
    one_less : (n k : ℕ) → suc n ≡ suc k → n ≡ k
    one_less n k f = omega (arith, f)

-- ---- what a client has closed

-- its numbers were given, and what it closed it has no more
record IsShut (c : Client) : Type 0 where
  answered : IsAnswered c
  given : (own : ℕ) → is_own own c.subs ≡ true → own ≤ c.given
  shut : (own : ℕ) → IsClosed c own → (own ≤ c.given) × (is_own own c.subs ≡ false)

new_shut : (es : List Entry) (t : Token) (at : List ℕ) → IsShut (fresh es t at)
new_shut es t at = record {
  answered = IsAnswered-fresh es t at;
  given = λ own h. absurd (false≢true h);
  shut = λ own k. absurd (nothing own k);
}
  where
    nothing : (own : ℕ) → IsClosed (fresh es t at) own → ⊥
    nothing own (place, id, (text, there, asks, reply)) = not_None-Some text (sym there)

hears_shut : (c d : Client) → Hears c d → IsShut c → IsShut d
hears_shut c d x a = record {
  answered = IsAnswered-Hears c d x a.answered;
  given = λ own h. subst (λ n. own ≤ n) (sym x.given) (a.given own (is_own-before c d own (x.none own) h));
  shut = λ own k. let p = a.shut own (before own k) in (subst (λ n. own ≤ n) (sym x.given) p.0, x.none own p.1);
}
  where
    same : replies (told d) ≡ replies (told c)
    same = ap replies x.text ∙ (replies-append (told c) x.more ∙ (ap (λ z. replies (told c) ++ z) x.quiet ∙ append-nil (replies (told c))))

    before : (own : ℕ) → IsClosed d own → IsClosed c own
    before own (place, id, (text, there, asks, reply)) =
        (place, id, (text, ap (λ z. slice_get z place) (sym x.messages) ∙ there, asks, ap (λ z. slice_get z (place + 2)) (sym same) ∙ reply))

-- the reply says that it is done where the client has the number
done_has : (g : Gate) (c : Client) (text : List ℕ) (s : Message) (id : Option Data) (own : ℕ) → s ≡ request id (unsubscribe own) → said_reply g c text s ≡ replied id done → is_own own c.subs ≡ true
done_has g c text s id own e h = by (is_own own c.subs) refl
  where
    no : replied id (refused unknown_subscription) ≡ replied id done → ⊥
    no k = cc

    never : unasked id (unknown (codes "once")) ≡ replied id done → ⊥
    never k = cc

    reply : said_reply g c text (request id (unsubscribe own)) ≡ replied id done
    reply = sym (ap (λ z. said_reply g c text z) e) ∙ h

    test : is_own own c.subs ≡ false → (b : Bool)
        → cond b (replied id (cond (is_some (followed_by c.subs own)) done (refused unknown_subscription))) (unasked id (unknown (codes "once"))) ≡ replied id done → ⊥
    test k true r = no (sym (ap (λ o. replied id (cond (is_some o) done (refused unknown_subscription))) (followed_by-not_is_own c.subs own k)) ∙ r)
    test k false r = never r

    by : (t : Bool) → is_own own c.subs ≡ t → is_own own c.subs ≡ true
    by true k = k
    by false k = absurd (test k (may_have (claim_said text) (unsubscribe own)) reply)

-- and where the message has no name
done_may : (g : Gate) (c : Client) (text : List ℕ) (s : Message) (id : Option Data) (own : ℕ) → s ≡ request id (unsubscribe own) → said_reply g c text s ≡ replied id done → may_have (claim_said text) (unsubscribe own) ≡ true
done_may g c text s id own e h = by (may_have (claim_said text) (unsubscribe own)) refl (sym (ap (λ z. said_reply g c text z) e) ∙ h)
  where
    never : unasked id (unknown (codes "once")) ≡ replied id done → ⊥
    never k = cc

    by : (b : Bool) → may_have (claim_said text) (unsubscribe own) ≡ b
        → cond b (replied id (cond (is_some (followed_by c.subs own)) done (refused unknown_subscription))) (unasked id (unknown (codes "once"))) ≡ replied id done → may_have (claim_said text) (unsubscribe own) ≡ true
    by true k r = k
    by false k r = absurd (never r)

answers_shut : (g : Gate) (m : ℕ) (c : Client) (text : List ℕ) (d : Client) → OwnAnswer g m c text d → Closes text d → IsShut c → IsShut d
answers_shut g m c text d x n a = record {
  answered = IsAnswered-OwnAnswer g m c text d x a.answered;
  given = λ own h. by_given own (x.comes own h);
  shut = λ own k. is_shut own k;
}
  where
    t : Told
    t = said_reply (asked g m text) c text (said_by text)

    more : (b : Bool) (n k : ℕ) → n ≤ k → n ≤ cond b (k + 1) k
    more true n k h = omega (arith, h)
    more false n k h = h

    later : (own : ℕ) → own ≤ c.given → own ≤ d.given
    later own h = subst (λ z. own ≤ z) (sym x.given) (more (is_opened t) own c.given h)

    by_given : (own : ℕ) → (is_own own c.subs ≡ true) ⊎ ((is_opened t ≡ true) × (own ≡ c.given + 1)) → own ≤ d.given
    by_given own (inl h) = later own (a.given own h)
    by_given own (inr h) = subst (λ z. own ≤ z) (sym (x.given ∙ ap (λ b. cond b (c.given + 1) c.given) h.0)) (at_most own (c.given + 1) h.1)
      where
        at_most : (i j : ℕ) → i ≡ j → i ≤ j
        at_most i j e = omega (arith, e)

    -- what it closed before it is not given again
    old : (own : ℕ) → IsClosed c own → (own ≤ d.given) × (is_own own d.subs ≡ false)
    old own k = let p = a.shut own k in (later own p.0, by (is_own own d.subs) refl p.0 p.1)
      where
        not_given : (i j : ℕ) → i ≤ j → i ≡ j + 1 → ⊥
        not_given i j l e = omega (arith, l, e)

        came : own ≤ c.given → is_own own c.subs ≡ false → (is_own own c.subs ≡ true) ⊎ ((is_opened t ≡ true) × (own ≡ c.given + 1)) → ⊥
        came l f (inl h) = false≢true (sym f ∙ h)
        came l f (inr h) = not_given own c.given l h.1

        by : (b : Bool) → is_own own d.subs ≡ b → own ≤ c.given → is_own own c.subs ≡ false → is_own own d.subs ≡ false
        by true e l f = absurd (came l f (x.comes own e))
        by false e l f = e

    -- the message closes it
    new : (own : ℕ) (id : Option Data) → said_by text ≡ request id (unsubscribe own) → t ≡ replied id done → (own ≤ d.given) × (is_own own d.subs ≡ false)
    new own id s e = (later own (a.given own (done_has (asked g m text) c text (said_by text) id own s e)), n id own s (done_may (asked g m text) c text (said_by text) id own s e))

    all : replies (told d) ≡ replies (told c) ++ t ∷ []
    all = ap replies x.text ∙ replies-one_reply (told c) x.before x.others t x.started x.alone (is_reply-said_reply (asked g m text) c text (said_by text))

    plus : (i j k : ℕ) → k ≡ 2 + j → i + 2 ≡ k → i ≡ j
    plus i j k e f = omega (arith, e, f)

    minus : (i j k : ℕ) → k ≡ 2 + j → i ≡ j → i + 2 ≡ k
    minus i j k e f = omega (arith, e, f)

    at : (own place : ℕ) (id : Option Data) (u : List ℕ) → said_by u ≡ request id (unsubscribe own)
        → (slice_get c.messages place ≡ Some u) ⊎ ((place ≡ length c.messages) × (Some text ≡ Some u))
        → (slice_get (replies (told c)) (place + 2) ≡ Some (replied id done)) ⊎ ((place + 2 ≡ length (replies (told c))) × (Some t ≡ Some (replied id done)))
        → (own ≤ d.given) × (is_own own d.subs ≡ false)
    at own place id u s (inl h) (inl k) = old own (place, id, (u, h, s, k))
    at own place id u s (inl h) (inr k) = absurd (not_behind c.messages place u h (plus place (length c.messages) (length (replies (told c))) a.answered.each k.0))
    at own place id u s (inr h) (inl k) = absurd (not_behind (replies (told c)) (place + 2) (replied id done) k (minus place (length c.messages) (length (replies (told c))) a.answered.each h.0))
    at own place id u s (inr h) (inr k) = new own id (ap said_by (same_of h.1) ∙ s) (same_of k.1)
      where
        same_of : {X : Type 0} {y z : X} → Some y ≡ Some z → y ≡ z
        same_of e = cc

    is_shut : (own : ℕ) → IsClosed d own → (own ≤ d.given) × (is_own own d.subs ≡ false)
    is_shut own (place, id, (u, there, asks, reply)) = at own place id u asks
        (at_end c.messages text place u (ap (λ z. slice_get z place) (sym x.messages) ∙ there))
        (at_end (replies (told c)) t (place + 2) (replied id done) (ap (λ z. slice_get z (place + 2)) (sym all) ∙ reply))

keeps_shut : Came IsShut
keeps_shut = record { new = new_shut; hears = hears_shut; answers = answers_shut }

pub StaysClosed-Runs : (cap : ℕ) (g : Gate) → Runs cap g → StaysClosed g
StaysClosed-Runs cap g r m c own x k = followed_by-not_is_own c.subs own ((Came-Runs IsShut keeps_shut cap g r m c x).shut own k).1
