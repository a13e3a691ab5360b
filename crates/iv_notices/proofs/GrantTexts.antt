-- What a command grants, as the code tells it.
use Rattle.std.proofs.Common.{◌≡◌, ◌∙◌, ℕ, zero, suc, ◌+◌, ◌<◌, ◌≤◌, Bool, true, false, cond, List, [], ◌∷◌, ◌++◌, length, take, get_or, map, Option, Some}
use Rattle.std.proofs.Common.{None, option_map, refl, ap, sym, append-nil, append_assoc, add-one, add_assoc, arith, length-append}
use Rattle.std.specs.Prelude.{◌==◌, flat_map}
use Rattle.std.proofs.lemmas.Bool.{false≢true}
use Rattle.std.proofs.lemmas.List.{map_more, map-append}
use Rattle.std.proofs.lemmas.List.Concat.{flat_map-append}
use Rattle.iv_rows.specs.Options.{if_some}
use Rattle.iv_access.specs.Rights.{Name}
use Rattle.iv_machine.specs.Act.{Act, Line}
use Rattle.iv_machine.specs.State.{Frame}
use Rattle.iv_message.specs.Lines.{IsLine}
use Rattle.iv_message.specs.Told.{Told, granted, told_text}
use Rattle.iv_clients.specs.Clients.{Client, Slots, at_all, at_client, client_at, own_lines, staying, telling}
use Rattle.iv_clients.specs.Feeds.{Feed}
use Rattle.iv_records.specs.Journal.{Entry}
use Rattle.iv_clients.specs.Kept.{Kept, Places, holding, holding_all, keeping_on, kept, kept_slots}
use Rattle.iv_gate.specs.Gate.{granted_by, is_accepted, reply_in}
use Rattle.iv_notices.specs.Granting.{IsGranting, granted_in, hearing_granted, holding_for, text_granted}
use Rattle.iv_hall.specs.Hearing.{hearing_lines}
use Rattle.iv_notices.specs.declared.granting.Grants.{Grants}
use Rattle.iv_hall.proofs.TextsOfLines.{holding_all-append}
use Rattle.iv_notices.proofs.ClientChanges.{at_all-kept_slots, kept-telling, length-told_text}

-- ---- all places

-- the same is done to each
pub at_all-same : {C : Type 0} (f h : C → C) → ((c : C) → f c ≡ h c) → (os : List (Option C)) → at_all f os ≡ at_all h os
at_all-same f h e os i = at_all (λ c. e c i) os

still_slot : {C : Type 0} (o : Option C) → o ≡ option_map (λ c. c) o
still_slot None = refl
still_slot (Some c) = refl

-- nothing is done to any
pub at_all-identity : {C : Type 0} (os : List (Option C)) → os ≡ at_all (λ c. c) os
at_all-identity [] = refl
at_all-identity (o ∷ os) = λ i. still_slot o i ∷ at_all-identity os i

both_slot : {C : Type 0} (f h : C → C) (o : Option C) → option_map f (option_map h o) ≡ option_map (λ c. f (h c)) o
both_slot f h None = refl
both_slot f h (Some c) = refl

-- one thing after another is done to each
pub both_all : {C : Type 0} (f h : C → C) (os : List (Option C)) → at_all f (at_all h os) ≡ at_all (λ c. f (h c)) os
both_all f h [] = refl
both_all f h (o ∷ os) = λ i. both_slot f h o i ∷ both_all f h os i

-- the first of them are changed
abbrev pub first_all : {C : Type 0} → (C → C) → ℕ → List (Option C) → List (Option C)
first_all f zero os = os
first_all f (suc n) [] = []
first_all f (suc n) (o ∷ os) = option_map f o ∷ first_all f n os

one_first : {C : Type 0} (f : C → C) (n : ℕ) (os : List (Option C)) → at_client n f (first_all f n os) ≡ first_all f (suc n) os
one_first f zero [] = refl
one_first f zero (o ∷ os) = refl
one_first f (suc n) [] = refl
one_first f (suc n) (o ∷ os) = ap (λ z. option_map f o ∷ z) (one_first f n os)

pub first_all-next : {C : Type 0} (f : C → C) (n : ℕ) (os before now : List (Option C)) → before ≡ first_all f n os → now ≡ at_client n f before
    → now ≡ first_all f (n + 1) os
first_all-next f n os before now e g = g ∙ (ap (at_client n f) e ∙ (one_first f n os ∙ ap (λ k. first_all f k os) (sym (add-one n))))

pub first_all-whole : {C : Type 0} (f : C → C) (n : ℕ) (os : List (Option C)) → length os ≤ n → first_all f n os ≡ at_all f os
first_all-whole f zero [] h = refl
first_all-whole f zero (o ∷ os) h = absurd (let none : ⊥ = omega (arith, h) in none)
first_all-whole f (suc n) [] h = refl
first_all-whole f (suc n) (o ∷ os) h = ap (λ z. option_map f o ∷ z) (first_all-whole f n os (omega (arith, h)))

-- a client of such a role is told, and no other
pub at_client-holding_for : (p : Name → Bool) (text : List ℕ) (n : ℕ) (places : Places) → if_some (client_at places n) false (λ (k : Kept). p k.role) ≡ true
    → at_client n (holding text) places ≡ at_client n (holding_for p text) places
at_client-holding_for p text n [] h = refl
at_client-holding_for p text zero (None ∷ os) h = refl
at_client-holding_for p text zero (Some k ∷ os) h = ap (λ b. Some (cond b (holding text k) k) ∷ os) (sym h)
at_client-holding_for p text (suc n) (o ∷ os) h = ap (λ z. o ∷ z) (at_client-holding_for p text n os h)

pub at_client-not_holding_for : (p : Name → Bool) (text : List ℕ) (n : ℕ) (places : Places)
    → if_some (client_at places n) false (λ (k : Kept). p k.role) ≡ false
    → places ≡ at_client n (holding_for p text) places
at_client-not_holding_for p text n [] h = refl
at_client-not_holding_for p text zero (None ∷ os) h = refl
at_client-not_holding_for p text zero (Some k ∷ os) h = ap (λ b. Some (cond b (holding text k) k) ∷ os) (sym h)
at_client-not_holding_for p text (suc n) (o ∷ os) h = ap (λ z. o ∷ z) (at_client-not_holding_for p text n os h)

-- ---- the text of what is granted

-- one text after another
held_twice : (x y : List ℕ) (k : Kept) → holding y (holding x k) ≡ holding (x ++ y) k
held_twice x y k i = record (holding (x ++ y) k) { unsynced = append_assoc k.unsynced x y i; brought = count i }
  where
    count : k.brought + length x + length y ≡ k.brought + length (x ++ y)
    count = add_assoc k.brought (length x) (length y) ∙ ap (λ n. k.brought + n) (sym (length-append x y))

pub holding_all-holding : (ts : List Told) (x : List ℕ) (k : Kept) → holding_all ts (holding x k) ≡ holding (x ++ flat_map told_text ts) k
holding_all-holding [] x k = ap (λ z. holding z k) (sym (append-nil x))
holding_all-holding (t ∷ ts) x k =
    ap (holding_all ts) (held_twice x (told_text t) k)
    ∙ (holding_all-holding ts (x ++ told_text t) k ∙ ap (λ z. holding z k) (append_assoc x (told_text t) (flat_map told_text ts)))

-- whom something is granted
abbrev pub told_names : (Name → Bool) → List Name → Kept → Kept
told_names p names k = holding_all (map granted (cond (p k.role) names [])) k

none_told : (b : Bool) (k : Kept) → k ≡ holding_all (map granted (cond b [] [])) k
none_told true k = refl
none_told false k = refl

some_told : (n : Name) (ns : List Name) (b : Bool) (k : Kept) → cond b (holding (text_granted (n ∷ ns)) k) k ≡ holding_all (map granted (cond b (n ∷ ns) [])) k
some_told n ns true k = sym (holding_all-holding (map granted ns) (told_text (granted n)) k)
some_told n ns false k = refl

-- where the text is empty nothing is granted
pub at_all-told_names_none : ((t : Told) → IsLine (told_text t)) → (p : Name → Bool) (names : List Name) (places : Places)
    → (length (text_granted names) == 0) ≡ true
    → places ≡ at_all (told_names p names) places
at_all-told_names_none law p [] places h = at_all-identity places ∙ at_all-same (λ k. k) (told_names p []) (λ k. none_told (p k.role) k) places
at_all-told_names_none law p (n ∷ ns) places h = absurd (false≢true (sym (length-told_text (granted n) (text_granted ns) (law (granted n))) ∙ h))

pub at_all-told_names : (p : Name → Bool) (names : List Name) (places : Places) → (length (text_granted names) == 0) ≡ false
    → at_all (holding_for p (text_granted names)) places ≡ at_all (told_names p names) places
at_all-told_names p [] places h = absurd (false≢true (sym h))
at_all-told_names p (n ∷ ns) places h = at_all-same (holding_for p (text_granted (n ∷ ns))) (told_names p (n ∷ ns)) (λ k. some_told n ns (p k.role) k) places

more_text : (ns : List Name) (n : Name) → text_granted (ns ++ n ∷ []) ≡ text_granted ns ++ told_text (granted n)
more_text ns n =
    ap (flat_map told_text) (map-append granted ns (n ∷ []))
    ∙ (flat_map-append told_text (map granted ns) (granted n ∷ []) ∙ ap (λ z. text_granted ns ++ z) (append-nil (told_text (granted n))))

-- one name more of a list
pub text_granted-take_next : {A : Type 0} (read : A → Name) (xs : List A) (i : ℕ) (d : A) (start before now : List ℕ) → i < length xs
    → before ≡ start ++ text_granted (map read (take i xs))
    → now ≡ before ++ told_text (granted (read (get_or xs i d))) → now ≡ start ++ text_granted (map read (take (i + 1) xs))
text_granted-take_next read xs i d start before now lt e g =
    g ∙ (ap (λ z. z ++ told_text (granted (read (get_or xs i d)))) e
    ∙ (append_assoc start (text_granted (map read (take i xs))) (told_text (granted (read (get_or xs i d)))) ∙ ap (λ z. start ++ z) (sym more)))
  where
    more : text_granted (map read (take (i + 1) xs)) ≡ text_granted (map read (take i xs)) ++ told_text (granted (read (get_or xs i d)))
    more = ap text_granted (map_more read xs i d lt) ∙ more_text (map read (take i xs)) (read (get_or xs i d))

-- ---- clients

pub role_held : (ts : List Told) (k : Kept) → (holding_all ts k).role ≡ k.role
role_held [] k = refl
role_held (t ∷ ts) k = role_held ts (holding (told_text t) k)

-- the lines of a command are told, and then to each role what is its own
pub kept_slots-granted : (es : List Entry) (feeds : List Feed) (ls : List Line) (more : Name → List Told) (slots : Slots) (places : Places)
    → places ≡ kept_slots slots
    → at_all (keeping_on ls) (at_all (λ k. holding_all (more k.role) k) (at_all (hearing_lines feeds ls) places))
    ≡ kept_slots (at_all (λ c. staying ls (telling es (own_lines feeds ls c.subs ++ more c.role) c)) slots)
kept_slots-granted es feeds ls more slots places b =
    ap (λ z. at_all (keeping_on ls) (at_all (λ k. holding_all (more k.role) k) (at_all (hearing_lines feeds ls) z))) b
    ∙ (ap (at_all (keeping_on ls)) (both_all (λ k. holding_all (more k.role) k) (hearing_lines feeds ls) (kept_slots slots)
    ∙ at_all-kept_slots tells_all hears_all one slots)
    ∙ (at_all-kept_slots (staying ls) (keeping_on ls) (λ c. refl) (at_all tells_all slots) ∙ ap kept_slots (both_all (staying ls) tells_all slots)))
  where
    tells_all : Client → Client
    tells_all c = telling es (own_lines feeds ls c.subs ++ more c.role) c

    hears_all : Kept → Kept
    hears_all k = holding_all (more (hearing_lines feeds ls k).role) (hearing_lines feeds ls k)

    one : (c : Client) → kept (tells_all c) ≡ hears_all (kept c)
    one c = let own = own_lines feeds ls c.subs in
        kept-telling es (own_lines feeds ls c.subs ++ more c.role) c
        ∙ (holding_all-append own (more c.role) (kept c) ∙ ap (λ r. holding_all (more r) (hearing_lines feeds ls (kept c))) (sym (role_held own (kept c))))

-- by a refused command nothing is granted
pub at_all-hearing_granted_none : (b : Bool) (f : Frame) (gs : Grants) (places : Places) → b ≡ false → places ≡ at_all (hearing_granted b f gs) places
at_all-hearing_granted_none b f gs places h = at_all-identity places ∙ ap (λ z. at_all (hearing_granted z f gs) places) (sym h)

-- what is granted in a frame is granted by the act
pub at_all-hearing_granted : (ls ms : List Line) (e f : Frame) (act : Act) (gs : Grants) (places : Places) → ls ≡ ms → f ≡ e → IsGranting act gs
    → at_all (hearing_granted (is_accepted (reply_in ls)) e gs) places ≡ at_all
    (λ k. holding_all (cond (is_accepted (reply_in ms)) (map granted (granted_by f act k.role)) []) k) places
at_all-hearing_granted ls ms e f act gs places p q h =
    λ i. at_all (λ k. holding_all (cond (is_accepted (reply_in (p i))) (map granted (step k.role i)) []) k) places
  where
    step : (role : Name) → granted_in e gs role ≡ granted_by f act role
    step role = ap (λ z. granted_in z gs role) (sym q) ∙ sym (h f role)
