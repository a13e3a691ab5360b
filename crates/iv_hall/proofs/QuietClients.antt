-- Clients to whom something is done that leaves them as they were, or of whom less is so than before.
use Rattle.std.proofs.Common.{◌≡◌, ◌∙◌, ◌⊎◌, inl, inr, ℕ, suc, ◌+◌, Bool, true, false, ◌||◌, cond, not, List, [], ◌∷◌, ◌++◌, length, map, filter, refl, ap, sym}
use Rattle.std.proofs.Common.{arith, append-nil, length-append}
use Rattle.std.specs.Prelude.{◌==◌, ◌&&◌, bytes_eq, flat_map, nat_lt}
use Rattle.std.specs.List.{list_any}
use Rattle.std.proofs.lemmas.Bool.{cases_Bool, eq-eqb, eqb-true, false≢true, not-false, or_cases, or_left, or_parts, or_right}
use Rattle.std.proofs.lemmas.List.Folds.{list_any-append}
use Rattle.iv_access.specs.Rights.{Name}
use Rattle.iv_machine.specs.Act.{Line}
use Rattle.iv_message.specs.Told.{Told}
use Rattle.iv_clients.specs.Bounds.{most_piled}
use Rattle.iv_clients.specs.Clients.{Sub, moved_sub}
use Rattle.iv_clients.specs.Kept.{Kept, checking, emptied, holding, holding_all, holding_owed, is_due, is_following, is_told, letting_go, releasing}
use Rattle.iv_clients.specs.Tokens.{Token, token_of}
use Rattle.iv_rows.specs.Options.{if_some}
use Rattle.iv_hall.specs.Hearing.{hearing_for, told_as, told_for}

-- it follows the same, and its numbers are the same
pub record FollowsAlike (before now : Kept) : Type 0 where
  pub given : now.given ≡ before.given
  pub subs : now.subs ≡ before.subs

-- ---- told

-- what a client is that was told nothing
pub record IsQuiet (k : Kept) : Type 0 where
  pub dropped : k.dropped ≡ false
  pub sendable : k.sendable ≡ []
  pub unsynced : k.unsynced ≡ []
  pub brought : k.brought ≡ 0
  pub piled : k.piled ≡ 0

no_text : (xs : List ℕ) → not (length xs == 0) ≡ false → xs ≡ []
no_text [] h = refl
no_text (x ∷ xs) h = absurd (let e : suc (length xs) ≡ 0 = eqb-true (suc (length xs)) 0 (not-false (suc (length xs) == 0) h) in let none : ⊥ =
    omega (arith, e) in none)

pub quiet : (k : Kept) → is_told k ≡ false → IsQuiet k
quiet k h =
    let a = or_parts (is_due k) (not (length k.unsynced == 0) || (not (k.brought == 0) || not (k.piled == 0))) h in
    let b = or_parts k.dropped (not (length k.sendable == 0)) a.0 in
    let c = or_parts (not (length k.unsynced == 0)) (not (k.brought == 0) || not (k.piled == 0)) a.1 in
    let d = or_parts (not (k.brought == 0)) (not (k.piled == 0)) c.1 in
    record {
      dropped = b.0;
      sendable = no_text k.sendable b.1;
      unsynced = no_text k.unsynced c.0;
      brought = eqb-true k.brought 0 (not-false (k.brought == 0) d.0);
      piled = eqb-true k.piled 0 (not-false (k.piled == 0) d.1);
    }

-- who was told nothing has nothing released
pub releasing-not_told : (k : Kept) → is_told k ≡ false → releasing k ≡ k
releasing-not_told k h =
    let q = quiet k h in
    (λ i. cond (q.dropped i || nat_lt most_piled (q.piled i)) (letting_go k)
    (record k { unsynced = []; sendable = k.sendable ++ k.unsynced; brought = 0; piled = k.piled + k.brought }))
    ∙ (λ i. record k { unsynced = sym q.unsynced i; sendable = text q i; brought = sym q.brought i; piled = count q i })
  where
    text : IsQuiet k → k.sendable ++ k.unsynced ≡ k.sendable
    text q = ap (λ z. k.sendable ++ z) q.unsynced ∙ append-nil k.sendable

    count : IsQuiet k → k.piled + k.brought ≡ k.piled
    count q = omega (arith, q.brought)

full : {A : Type 0} (xs ys : List A) → (not (length xs == 0) || not (length ys == 0)) ≡ true → not (length (xs ++ ys) == 0) ≡ true
full xs ys h = by (cases_Bool (length (xs ++ ys) == 0))
  where
    by : ((length (xs ++ ys) == 0) ≡ true) ⊎ ((length (xs ++ ys) == 0) ≡ false) → not (length (xs ++ ys) == 0) ≡ true
    by (inr e) = ap not e
    by (inl e) =
        let none = eqb-true (length (xs ++ ys)) 0 e in let both = length-append xs ys in
        let a : length xs ≡ 0 = omega (arith, none, both) in let b : length ys ≡ 0 = omega (arith, none, both) in
        absurd (false≢true (sym (λ i. not (eq-eqb (length xs) 0 a i) || not (eq-eqb (length ys) 0 b i)) ∙ h))

more : (a b : ℕ) → (not (b == 0) || not (a == 0)) ≡ true → not ((a + b) == 0) ≡ true
more a b h = by (cases_Bool ((a + b) == 0))
  where
    by : (((a + b) == 0) ≡ true) ⊎ (((a + b) == 0) ≡ false) → not ((a + b) == 0) ≡ true
    by (inr e) = ap not e
    by (inl e) =
        let none = eqb-true (a + b) 0 e in let x : a ≡ 0 = omega (arith, none) in let y : b ≡ 0 = omega (arith, none) in
        absurd (false≢true (sym (λ i. not (eq-eqb b 0 y i) || not (eq-eqb a 0 x i)) ∙ h))

-- who was told something is told something when it is released
pub released_told : (k : Kept) → is_told k ≡ true → is_told (releasing k) ≡ true
released_told k h = by (k.dropped || nat_lt most_piled k.piled) refl
  where
    waits : (d s u b p : Bool) → d ≡ false → ((d || s) || (u || (b || p))) ≡ true → ((s || u) ≡ true) ⊎ ((b || p) ≡ true)
    waits d true u b p e i = inl refl
    waits d false true b p e i = inl refl
    waits d false false b p e i = inr (ap (λ z. (z || false) || (false || (b || p))) (sym e) ∙ i)

    kept : k.dropped ≡ false → ((not (length k.sendable == 0) || not (length k.unsynced == 0)) ≡ true) ⊎ ((not (k.brought == 0) || not (k.piled == 0)) ≡ true)
        → is_told (record k { unsynced = []; sendable = k.sendable ++ k.unsynced; brought = 0; piled = k.piled + k.brought }) ≡ true
    kept d (inl e) = or_left (k.dropped || not (length (k.sendable ++ k.unsynced) == 0)) _
        (or_right k.dropped (not (length (k.sendable ++ k.unsynced) == 0)) (full k.sendable k.unsynced e))
    kept d (inr e) = or_right (k.dropped || not (length (k.sendable ++ k.unsynced) == 0)) _ (more k.piled k.brought e)

    by : (b : Bool) → (k.dropped || nat_lt most_piled k.piled) ≡ b
        → is_told (cond b (letting_go k) (record k { unsynced = []; sendable = k.sendable ++ k.unsynced; brought = 0; piled = k.piled + k.brought })) ≡ true
    by true e = refl
    by false e =
        let d = (or_parts k.dropped (nat_lt most_piled k.piled) e).0 in
        kept d (waits k.dropped (not (length k.sendable == 0)) (not (length k.unsynced == 0)) (not (k.brought == 0)) (not (k.piled == 0)) d h)

-- who is told something then was told something before, and the other way round
pub is_told-releasing : (k : Kept) → is_told (releasing k) ≡ is_told k
is_told-releasing k = by (cases_Bool (is_told k))
  where
    by : (is_told k ≡ true) ⊎ (is_told k ≡ false) → is_told (releasing k) ≡ is_told k
    by (inl e) = released_told k e ∙ sym e
    by (inr e) = ap is_told (releasing-not_told k e)

-- who was told nothing has nothing to take
pub emptied_quiet : (k : Kept) → is_told k ≡ false → emptied k ≡ k
emptied_quiet k h = ap (λ z. cond (length z == 0) k (record k { sendable = []; asked = 0; piled = 0 })) (quiet k h).sendable

-- who has something that may be sent was told something
pub is_told-is_due : (k : Kept) → is_due k ≡ true → is_told k ≡ true
is_told-is_due k h = or_left (is_due k) (not (length k.unsynced == 0) || (not (k.brought == 0) || not (k.piled == 0))) h

emptied_by : (b : Bool) (k : Kept) → (cond b k (record k { sendable = []; asked = 0; piled = 0 })).owed ≡ k.owed
emptied_by true k = refl
emptied_by false k = refl

pub owed-emptied : (k : Kept) → (emptied k).owed ≡ k.owed
owed-emptied k = emptied_by (length k.sendable == 0) k

emptied_with : (b : Bool) (k : Kept) → FollowsAlike k (cond b k (record k { sendable = []; asked = 0; piled = 0 }))
emptied_with true k = record { given = refl; subs = refl }
emptied_with false k = record { given = refl; subs = refl }

pub FollowsAlike-emptied : (k : Kept) → FollowsAlike k (emptied k)
FollowsAlike-emptied k = emptied_with (length k.sendable == 0) k

released_by : (b : Bool) (k : Kept) → (cond b (letting_go k) (record k
    { unsynced = []; sendable = k.sendable ++ k.unsynced; brought = 0; piled = k.piled + k.brought })).owed ≡ k.owed
released_by true k = refl
released_by false k = refl

pub owed-releasing : (k : Kept) → (releasing k).owed ≡ k.owed
owed-releasing k = released_by (k.dropped || nat_lt most_piled k.piled) k

released_with : (b : Bool) (k : Kept) → FollowsAlike k (cond b (letting_go k) (record k
    { unsynced = []; sendable = k.sendable ++ k.unsynced; brought = 0; piled = k.piled + k.brought }))
released_with true k = record { given = refl; subs = refl }
released_with false k = record { given = refl; subs = refl }

pub FollowsAlike-releasing : (k : Kept) → FollowsAlike k (releasing k)
FollowsAlike-releasing k = released_with (k.dropped || nat_lt most_piled k.piled) k

checked_by : (b : Bool) (k : Kept) → (cond b k (letting_go k)).owed ≡ k.owed
checked_by true k = refl
checked_by false k = refl

pub owed-checking : (tokens : List Token) (k : Kept) → (checking tokens k).owed ≡ k.owed
owed-checking tokens k = checked_by (if_some (token_of tokens k.digest) false (λ (t : Token). bytes_eq k.role t.role && bytes_eq k.user t.user)) k

checked_with : (b : Bool) (k : Kept) → FollowsAlike k (cond b k (letting_go k))
checked_with true k = record { given = refl; subs = refl }
checked_with false k = record { given = refl; subs = refl }

pub FollowsAlike-checking : (tokens : List Token) (k : Kept) → FollowsAlike k (checking tokens k)
FollowsAlike-checking tokens k = checked_with (if_some (token_of tokens k.digest) false (λ (t : Token). bytes_eq k.role t.role && bytes_eq k.user t.user)) k

-- ---- owed

pub holding_owed-not_owed : (text : List ℕ) (k : Kept) → k.owed ≡ false → holding_owed text k ≡ k
holding_owed-not_owed text k h = ap (λ b. cond b (record (holding text k) { owed = false }) k) h

settled_by : (text : List ℕ) (b : Bool) (k : Kept) → k.owed ≡ b → (cond b (record (holding text k) { owed = false }) k).owed ≡ false
settled_by text true k h = refl
settled_by text false k h = h

pub owed-holding_owed : (text : List ℕ) (k : Kept) → (holding_owed text k).owed ≡ false
owed-holding_owed text k = settled_by text k.owed k refl

settled_with : (text : List ℕ) (b : Bool) (k : Kept) → FollowsAlike k (cond b (record (holding text k) { owed = false }) k)
settled_with text true k = record { given = refl; subs = refl }
settled_with text false k = record { given = refl; subs = refl }

pub FollowsAlike-holding_owed : (text : List ℕ) (k : Kept) → FollowsAlike k (holding_owed text k)
FollowsAlike-holding_owed text k = settled_with text k.owed k

-- ---- follows

any_filter : {X : Type 0} (p q : X → Bool) (xs : List X) → list_any p (filter q xs) ≡ true → list_any p xs ≡ true
any_filter p q [] h = h
any_filter p q (x ∷ xs) h = by (q x) h (λ e. any_filter p q xs e)
  where
    from : (p x ≡ true) ⊎ (list_any p (filter q xs) ≡ true) → (list_any p (filter q xs) ≡ true → list_any p xs ≡ true) → (p x || list_any p xs) ≡ true
    from (inl e) rest = or_left (p x) (list_any p xs) e
    from (inr e) rest = or_right (p x) (list_any p xs) (rest e)

    by : (b : Bool) → list_any p (cond b (x ∷ filter q xs) (filter q xs)) ≡ true → (list_any p (filter q xs) ≡ true → list_any p xs ≡ true)
        → (p x || list_any p xs) ≡ true
    by true h rest = from (or_cases (p x) (list_any p (filter q xs)) h) rest
    by false h rest = or_right (p x) (list_any p xs) (rest h)

-- who closed a number, or stayed behind lines, follows no more than before
pub list_any-filter_feeds : (feed : ℕ) (q : Sub → Bool) (subs : List Sub) → list_any (λ (s : Sub). feed == s.feed) (filter q subs) ≡ true
    → list_any (λ (s : Sub). feed == s.feed) subs ≡ true
list_any-filter_feeds feed q subs h = any_filter (λ s. feed == s.feed) q subs h

-- who follows one feed more follows that one, or did before
pub list_any-push_feed : (feed new own : ℕ) (subs : List Sub) → list_any (λ (s : Sub). feed == s.feed) (subs ++ record { own = own; feed = new } ∷ []) ≡ true
    → (feed ≡ new) ⊎ (list_any (λ (s : Sub). feed == s.feed) subs ≡ true)
list_any-push_feed feed new own subs h = from (or_cases (list_any (λ (s : Sub). feed == s.feed) subs) ((feed == new) || false)
    (sym (list_any-append (λ (s : Sub). feed == s.feed) subs (record { own = own; feed = new } ∷ [])) ∙ h))
  where
    from : (list_any (λ (s : Sub). feed == s.feed) subs ≡ true) ⊎ (((feed == new) || false) ≡ true)
        → (feed ≡ new) ⊎ (list_any (λ (s : Sub). feed == s.feed) subs ≡ true)
    from (inl e) = inr e
    from (inr e) = last (or_cases (feed == new) false e)
      where
        last : ((feed == new) ≡ true) ⊎ (false ≡ true) → (feed ≡ new) ⊎ (list_any (λ (s : Sub). feed == s.feed) subs ≡ true)
        last (inl x) = inl (eqb-true feed new x)
        last (inr x) = absurd (false≢true x)

-- who follows one feed more follows all others on
pub list_any-push_on : (feed new own : ℕ) (subs : List Sub) → list_any (λ (s : Sub). feed == s.feed) subs ≡ true
    → list_any (λ (s : Sub). feed == s.feed) (subs ++ record { own = own; feed = new } ∷ []) ≡ true
list_any-push_on feed new own subs h =
    list_any-append (λ (s : Sub). feed == s.feed) subs (record { own = own; feed = new } ∷ [])
    ∙ or_left (list_any (λ (s : Sub). feed == s.feed) subs) ((feed == new) || false) h

-- who is led from one feed to another follows all others on
pub list_any-moved_other : (feed from to : ℕ) (subs : List Sub) → (feed ≡ from → ⊥) → list_any (λ (s : Sub). feed == s.feed) subs ≡ true
    → list_any (λ (s : Sub). feed == s.feed) (map (moved_sub from to) subs) ≡ true
list_any-moved_other feed from to [] ne h = h
list_any-moved_other feed from to (s ∷ ss) ne h = by (cases_Bool (from == s.feed)) (or_cases (feed == s.feed) (list_any (λ (x : Sub). feed == x.feed) ss) h)
    (λ e. list_any-moved_other feed from to ss ne e)
  where
    by : ((from == s.feed) ≡ true) ⊎ ((from == s.feed) ≡ false) → ((feed == s.feed) ≡ true) ⊎ (list_any (λ (x : Sub). feed == x.feed) ss ≡ true)
        → (list_any (λ (x : Sub). feed == x.feed) ss ≡ true → list_any (λ (x : Sub). feed == x.feed) (map (moved_sub from to) ss) ≡ true)
        → ((feed == (moved_sub from to s).feed) || list_any (λ (x : Sub). feed == x.feed) (map (moved_sub from to) ss)) ≡ true
    by a (inr e) rest = or_right (feed == (moved_sub from to s).feed) (list_any (λ (x : Sub). feed == x.feed) (map (moved_sub from to) ss)) (rest e)
    by (inl a) (inl e) rest = absurd (ne (eqb-true feed s.feed e ∙ sym (eqb-true from s.feed a)))
    by (inr a) (inl e) rest = or_left (feed == (moved_sub from to s).feed) (list_any (λ (x : Sub). feed == x.feed) (map (moved_sub from to) ss))
        (ap (λ b. feed == (cond b (record s { feed = to }) s).feed) a ∙ e)

-- who is led from one feed to another follows that one, or the same as before
pub list_any-moved_either : (feed from to : ℕ) (subs : List Sub) → list_any (λ (s : Sub). feed == s.feed) (map (moved_sub from to) subs) ≡ true
    → (feed ≡ to) ⊎ (list_any (λ (s : Sub). feed == s.feed) subs ≡ true)
list_any-moved_either feed from to [] h = inr h
list_any-moved_either feed from to (s ∷ ss) h = by (from == s.feed) h (λ e. list_any-moved_either feed from to ss e)
  where
    one : (feed ≡ to) ⊎ ((feed == s.feed) ≡ true) → (feed ≡ to) ⊎ (((feed == s.feed) || list_any (λ (x : Sub). feed == x.feed) ss) ≡ true)
    one (inl x) = inl x
    one (inr x) = inr (or_left (feed == s.feed) (list_any (λ (x : Sub). feed == x.feed) ss) x)

    many : (feed ≡ to) ⊎ (list_any (λ (x : Sub). feed == x.feed) ss ≡ true)
        → (feed ≡ to) ⊎ (((feed == s.feed) || list_any (λ (x : Sub). feed == x.feed) ss) ≡ true)
    many (inl x) = inl x
    many (inr x) = inr (or_right (feed == s.feed) (list_any (λ (x : Sub). feed == x.feed) ss) x)

    from_both : (b : Bool) → (b ≡ true → (feed ≡ to) ⊎ ((feed == s.feed) ≡ true))
        → (b ≡ true) ⊎ (list_any (λ (x : Sub). feed == x.feed) (map (moved_sub from to) ss) ≡ true)
        → (list_any (λ (x : Sub). feed == x.feed) (map (moved_sub from to) ss) ≡ true → (feed ≡ to) ⊎ (list_any (λ (x : Sub). feed == x.feed) ss ≡ true))
        → (feed ≡ to) ⊎ (((feed == s.feed) || list_any (λ (x : Sub). feed == x.feed) ss) ≡ true)
    from_both b first (inl e) rest = one (first e)
    from_both b first (inr e) rest = many (rest e)

    by : (b : Bool) → ((feed == (cond b (record s { feed = to }) s).feed) || list_any (λ (x : Sub). feed == x.feed) (map (moved_sub from to) ss)) ≡ true
        → (list_any (λ (x : Sub). feed == x.feed) (map (moved_sub from to) ss) ≡ true → (feed ≡ to) ⊎ (list_any (λ (x : Sub). feed == x.feed) ss ≡ true))
        → (feed ≡ to) ⊎ (((feed == s.feed) || list_any (λ (x : Sub). feed == x.feed) ss) ≡ true)
    by true h rest = from_both (feed == to) (λ e. inl (eqb-true feed to e))
        (or_cases (feed == to) (list_any (λ (x : Sub). feed == x.feed) (map (moved_sub from to) ss)) h) rest
    by false h rest = from_both (feed == s.feed) (λ e. inr e) (or_cases (feed == s.feed) (list_any (λ (x : Sub). feed == x.feed) (map (moved_sub from to) ss))
        h) rest

-- ---- hears

untold : (feed : ℕ) (rel : Name) (l : Line) (subs : List Sub) → list_any (λ (s : Sub). feed == s.feed) subs ≡ false → flat_map (told_for feed rel l) subs ≡ []
untold feed rel l [] h = refl
untold feed rel l (s ∷ ss) h =
    let p = or_parts (feed == s.feed) (list_any (λ (x : Sub). feed == x.feed) ss) h in
    ap (λ b. cond b (told_as rel l s.own) [] ++ flat_map (told_for feed rel l) ss) p.0 ∙ untold feed rel l ss p.1

-- who does not follow a feed is told nothing of it
pub hearing_for-not_following : (feed : ℕ) (rel : Name) (l : Line) (k : Kept) → is_following feed k ≡ false → hearing_for feed rel l k ≡ k
hearing_for-not_following feed rel l k h = ap (λ (ts : List Told). holding_all ts k) (untold feed rel l k.subs h)
