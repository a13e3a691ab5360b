-- What is listed of clients stays so by each call.
use Rattle.std.proofs.Common.{◌≡◌, ◌∙◌, ◌⊎◌, inl, inr, ℕ, zero, suc, ◌+◌, ◌<◌, ◌≤◌, Bool, true, false, eqb, List, [], length, replicate, set, Option}
use Rattle.std.proofs.Common.{Some, None}
use Rattle.std.proofs.Common.{option_map, refl, ap, sym, subst, arith}
use Rattle.std.specs.Prelude.{◌==◌, flat_map, is_some, not, option_and_then}
use Rattle.std.specs.List.{Contains, IsDistinct, list_any}
use Rattle.std.proofs.lemmas.Bool.{cases_Bool, cases_eq, false≢true}
use Rattle.iv_rows.specs.Options.{if_some}
use Rattle.iv_access.specs.Rights.{Name}
use Rattle.iv_machine.specs.Act.{Line}
use Rattle.iv_clients.specs.Clients.{at_all, at_client, client_at, followed_by}
use Rattle.iv_clients.specs.Kept.{Kept, Places, answering, asking, checking, coming, emptied, holding, holding_beat, holding_owed, is_due, is_followed_by}
use Rattle.iv_clients.specs.Kept.{is_following, is_told, keeping_closed, keeping_moved, keeping_new, releasing}
use Rattle.iv_clients.specs.Tokens.{Token}
use Rattle.iv_clients.proofs.Slots.{length-at_all, length-at_client, length-set_slot, not_client_at-replicate, lt-client_at}
use Rattle.iv_hall.specs.Hall.{AreNumbered, IsHall, is_owed, is_told_at}
use Rattle.iv_hall.specs.Hearing.{feed_told, hearing_for, told_for}
use Rattle.iv_hall.specs.Listing.{AreThose, is_so_at, walked}
use Rattle.iv_hall.specs.Numbers.{AreSet, HasGainedAll, HasLost, Numbers}
use Rattle.iv_hall.specs.Readers.{HasKept, HasLeft, IsReader, Readers, readers_of}
use Rattle.iv_hall.proofs.Halls.{IsHall-at_all, IsHall-at_client, IsHall-empty, IsHall-at_client_following, IsHall-set}
use Rattle.iv_hall.proofs.TextsOfLines.{owed-hearing_for, FollowsAlike-holding_all, owed-holding_all}
use Rattle.iv_hall.proofs.FeedReaders.{list_any-AreThose}
use Rattle.iv_hall.proofs.OwnNumbers.{followed_by-keeping_closed, AreNumbered-filter, AreNumbered-moved_sub, AreNumbered-push_own}
use Rattle.iv_hall.proofs.NumberPlaces.{AreSet-by}
use Rattle.iv_hall.proofs.QuietClients.{FollowsAlike-checking, owed-checking, is_told-is_due, FollowsAlike-emptied, owed-emptied, list_any-filter_feeds, list_any-moved_other, list_any-moved_either, list_any-push_feed}
use Rattle.iv_hall.proofs.QuietClients.{list_any-push_on, hearing_for-not_following, FollowsAlike-releasing, owed-releasing, releasing-not_told, is_told-releasing, FollowsAlike-holding_owed, owed-holding_owed}
use Rattle.iv_hall.proofs.QuietClients.{holding_owed-not_owed}
use Rattle.iv_hall.proofs.ClientLists.{client_at-at_client_apart, client_at-set_apart, is_so_at-at_all_same, is_so_at-at_client_same, is_so_at-at_all, is_so_at-at_client_back, is_so_at-at_client_here, is_so_at-client_at, is_so_at-at_client_on, is_so_at-at_all_on, true-is_so_at_set, AreThose-AreSet_below, AreThose-but_one}
use Rattle.iv_hall.proofs.ClientLists.{AreThose-none, AreThose-AreSet_one, AreThose-same, AreThose-AreSet_some}
use Rattle.iv_hall.proofs.ClientWalks.{walked-AreThose}

-- the set is over the clients as they are written
over : {W : ℕ → Type 0} (xs ys : Places) (old new : Numbers) → ys ≡ xs → AreSet W (is_told_at ys) old new → AreSet W (is_told_at xs) old new
over {W} xs ys old new e s = subst (λ z. AreSet W (is_told_at z) old new) e s

pub IsHall-fail : (most : ℕ) (xs ys : Places) (owing owing' left telling telling' : Numbers) (reading reading' : List Readers)
    → IsHall most xs owing telling reading
    → owing'.size ≡ owing.size → left ≡ record { list = []; size = owing'.size } → telling' ≡ record { list = []; size = telling.size } → reading' ≡ []
    → ys ≡ []
    → IsHall most ys left telling' reading'
IsHall-fail most xs ys owing owing' left telling telling' reading reading' h s o t r e =
    IsHall-empty most ys left telling' reading' e (o ∙ ap (λ n. record { list = []; size = n }) (s ∙ h.owed_size))
    (t ∙ ap (λ n. record { list = []; size = n }) h.told_size) r

pub IsHall-new : (most : ℕ) (xs : Places) (owing telling : Numbers) → xs ≡ replicate most None → owing ≡ record { list = []; size = most }
    → telling ≡ record { list = []; size = most } → IsHall most xs owing telling []
IsHall-new most xs owing telling e o t = subst (λ z. IsHall most z owing telling []) (sym e) (record {
  within = many most;
  owed_size = ap (λ (x : Numbers). x.size) o;
  told_size = ap (λ (x : Numbers). x.size) t;
  owed = AreThose-none is_owed owing.list (replicate most None) (ap (λ (x : Numbers). x.list) o) (none is_owed);
  told = AreThose-none is_told telling.list (replicate most None) (ap (λ (x : Numbers). x.list) t) (none is_told);
  readers = λ feed. AreThose-none (is_following feed) [] (replicate most None) refl (none (is_following feed));
  numbered = λ m k there. absurd (not_client_at-replicate most m k there);
})
  where
    many : (n : ℕ) → length (replicate {A = Option Kept} n None) ≤ n
    many zero = omega arith
    many (suc n) = let h = many n in omega (arith, h)

    none : (p : Kept → Bool) (m : ℕ) → is_so_at p (replicate most None) m ≡ false
    none p m = by (client_at (replicate most None) m) refl
      where
        by : (o : Option Kept) → client_at (replicate most None) m ≡ o → if_some o false p ≡ false
        by None there = refl
        by (Some k) there = absurd (not_client_at-replicate most m k there)

-- ---- one

pub IsHall-holding : (most : ℕ) (xs ys : Places) (owing owing' telling telling' : Numbers) (reading : List Readers) (n : ℕ) (is : Bool) (text : List ℕ)
    → IsHall most xs owing telling reading → is ≡ is_some (client_at xs n) → AreSet (λ m. m ≡ n) (λ m. is) owing owing'
    → AreSet (λ m. m ≡ n) (is_told_at ys) telling telling' → ys ≡ at_client n (holding text) xs → IsHall most ys owing' telling' reading
IsHall-holding most xs ys owing owing' telling telling' reading n is text h there o t e =
    let f = holding text in let zs = at_client n f xs in let l = length-at_client n f xs in
    IsHall-at_client most xs ys owing owing' telling telling' reading n f h e o.size t.size (λ k. record { given = refl; subs = refl })
    (AreThose-AreSet_one is_owed n xs zs owing owing' h.owed
    (AreSet-by n is (is_so_at is_owed zs) owing owing' (there ∙ (owed (client_at xs n) ∙ sym (is_so_at-at_client_here is_owed f n xs))) o)
    (client_at-at_client_apart n f xs) (omega (arith, l, h.within, h.owed_size)))
    (AreThose-AreSet_one is_told n xs zs telling telling' h.told (over zs ys telling telling' e t) (client_at-at_client_apart n f xs)
    (omega (arith, l, h.within, h.told_size)))
  where
    owed : (o : Option Kept) → is_some o ≡ if_some (option_map (holding text) o) false is_owed
    owed None = refl
    owed (Some k) = refl

pub IsHall-asking : (most : ℕ) (xs ys : Places) (owing telling : Numbers) (reading : List Readers) (n : ℕ) → IsHall most xs owing telling reading
    → ys ≡ at_client n asking xs → IsHall most ys owing telling reading
IsHall-asking most xs ys owing telling reading n h e =
    let zs = at_client n asking xs in
    IsHall-at_client most xs ys owing owing telling telling reading n asking h e refl refl (λ k. record { given = refl; subs = refl })
    (AreThose-same is_owed owing.list xs zs (is_so_at-at_client_same is_owed asking n xs (λ k. refl)) h.owed)
    (AreThose-same is_told telling.list xs zs (is_so_at-at_client_same is_told asking n xs (λ k. refl)) h.told)

pub IsHall-answering : (most : ℕ) (xs ys : Places) (owing telling telling' : Numbers) (reading : List Readers) (n brought : ℕ)
    → IsHall most xs owing telling reading
    → AreSet (λ m. m ≡ n) (is_told_at ys) telling telling'
    → ys ≡ at_client n (answering brought) xs → IsHall most ys owing telling' reading
IsHall-answering most xs ys owing telling telling' reading n brought h t e =
    let f = answering brought in let zs = at_client n f xs in let l = length-at_client n f xs in
    IsHall-at_client most xs ys owing owing telling telling' reading n f h e refl t.size (λ k. record { given = refl; subs = refl })
    (AreThose-same is_owed owing.list xs zs (is_so_at-at_client_same is_owed f n xs (λ k. refl)) h.owed)
    (AreThose-AreSet_one is_told n xs zs telling telling' h.told (over zs ys telling telling' e t) (client_at-at_client_apart n f xs)
    (omega (arith, l, h.within, h.told_size)))

pub IsHall-emptied : (most : ℕ) (xs ys : Places) (owing telling telling' : Numbers) (reading : List Readers) (n : ℕ) → IsHall most xs owing telling reading
    → ys ≡ at_client n emptied xs → AreSet (λ m. m ≡ n) (is_told_at ys) telling telling'
    → IsHall most ys owing telling' reading
IsHall-emptied most xs ys owing telling telling' reading n h e t =
    let zs = at_client n emptied xs in let l = length-at_client n emptied xs in
    IsHall-at_client most xs ys owing owing telling telling' reading n emptied h e refl t.size FollowsAlike-emptied
    (AreThose-same is_owed owing.list xs zs (is_so_at-at_client_same is_owed emptied n xs owed-emptied) h.owed)
    (AreThose-AreSet_one is_told n xs zs telling telling' h.told (over zs ys telling telling' e t) (client_at-at_client_apart n emptied xs)
    (omega (arith, l, h.within, h.told_size)))

-- who IsHall-keeping_new one feed more, or another in its place, is among the readers of that one
pub IsHall-keeping_new : (most : ℕ) (xs ys : Places) (owing telling : Numbers) (reading reading' : List Readers) (n feed : ℕ)
    → IsHall most xs owing telling reading
    → ys ≡ at_client n (keeping_new feed) xs → IsReader n feed ys reading reading'
    → IsHall most ys owing telling reading'
IsHall-keeping_new most xs ys owing telling reading reading' n feed h e j =
    IsHall-at_client_following most xs ys owing telling reading reading' n (keeping_new feed) h e (λ k. refl) (λ k. refl)
    (λ k a. AreNumbered-push_own k.given feed k.subs a)
    (λ i. AreThose-but_one (is_following i) n (readers_of reading i) (readers_of reading' i) xs (at_client n (keeping_new feed) xs) (h.readers i)
    (client_at-at_client_apart n
    (keeping_new feed) xs)
    (λ m ne c. r.kept i m (λ p. ne p.1) c) (λ m ne c. r.others i m (λ p. ne p.1) c) (λ t. here i t (cases_eq i feed)) (λ c. out i c (cases_eq i feed)))
  where
    r : IsReader n feed (at_client n (keeping_new feed) xs) reading reading'
    r = subst (λ z. IsReader n feed z reading reading') e j

    before : (i : ℕ) → (i ≡ feed → ⊥) → (k : Kept) → is_following i (keeping_new feed k) ≡ true → is_following i k ≡ true
    before i ne k t = by (list_any-push_feed i feed (k.given + 1) k.subs t)
      where
        by : (i ≡ feed) ⊎ (is_following i k ≡ true) → is_following i k ≡ true
        by (inl x) = absurd (ne x)
        by (inr x) = x

    here : (i : ℕ) → is_so_at (is_following i) (at_client n (keeping_new feed) xs) n ≡ true → (i ≡ feed) ⊎ (i ≡ feed → ⊥) → Contains (readers_of reading' i) n
    here i t (inl x) = subst (λ z. Contains (readers_of reading' z) n) (sym x) (r.put (subst (λ z. is_so_at (is_following z) (at_client n
        (keeping_new feed) xs) n ≡ true) x t))
    here i t (inr ne) = r.kept i n (λ p. ne p.0) ((h.readers i).all n (is_so_at-at_client_back (is_following i) (keeping_new feed) n xs (before i ne) n t))

    out : (i : ℕ) → Contains (readers_of reading' i) n → (i ≡ feed) ⊎ (i ≡ feed → ⊥) → is_so_at (is_following i) (at_client n (keeping_new feed) xs) n ≡ true
    out i c (inl x) = subst (λ z. is_so_at (is_following z) (at_client n (keeping_new feed) xs) n ≡ true) (sym x) (r.only (subst (λ z. Contains
        (readers_of reading' z) n) x c))
    out i c (inr ne) =
        is_so_at-at_client_on (is_following i) (keeping_new feed) n xs (λ k t. list_any-push_on i feed (k.given + 1) k.subs t) ((h.readers i).only n
        (r.others i n (λ p. ne p.0) c))

pub IsHall-keeping_moved : (most : ℕ) (xs ys : Places) (owing telling : Numbers) (reading reading' left : List Readers) (n from to : ℕ)
    → IsHall most xs owing telling reading → ys ≡ at_client n (keeping_moved from to) xs → IsReader n to ys reading reading'
    → HasKept n (Some from) ys reading' left → IsHall most ys owing telling left
IsHall-keeping_moved most xs ys owing telling reading reading' left n from to h e j kept =
    IsHall-at_client_following most xs ys owing telling reading left n (keeping_moved from to) h e (λ k. refl) (λ k. refl)
    (λ k a. AreNumbered-moved_sub from to k.given k.subs a)
    (λ i. AreThose-but_one (is_following i) n (readers_of reading i) (readers_of left i) xs (at_client n (keeping_moved from to) xs) (h.readers i)
    (client_at-at_client_apart n
    (keeping_moved from to) xs)
    (λ m ne c. q.kept i m (λ p. ne p.0) (r.kept i m (λ p. ne p.1) c)) (λ m ne c. r.others i m (λ p. ne p.1) (q.only i m c))
    (λ t. q.kept i n (λ p. false≢true (sym p.1 ∙ t)) (here i t (cases_eq i to))) (λ c. out i c (cases_eq i to) (cases_eq i from)))
  where
    r : IsReader n to (at_client n (keeping_moved from to) xs) reading reading'
    r = subst (λ z. IsReader n to z reading reading') e j

    q : HasKept n (Some from) (at_client n (keeping_moved from to) xs) reading' left
    q = subst (λ z. HasKept n (Some from) z reading' left) e kept

    before : (i : ℕ) → (i ≡ to → ⊥) → (k : Kept) → is_following i (keeping_moved from to k) ≡ true → is_following i k ≡ true
    before i ne k t = by (list_any-moved_either i from to k.subs t)
      where
        by : (i ≡ to) ⊎ (is_following i k ≡ true) → is_following i k ≡ true
        by (inl x) = absurd (ne x)
        by (inr x) = x

    here : (i : ℕ) → is_so_at (is_following i) (at_client n (keeping_moved from to) xs) n ≡ true → (i ≡ to) ⊎ (i ≡ to → ⊥) → Contains (readers_of reading' i) n
    here i t (inl x) = subst (λ z. Contains (readers_of reading' z) n) (sym x) (r.put (subst (λ z. is_so_at (is_following z) (at_client n
        (keeping_moved from to) xs) n ≡ true) x t))
    here i t (inr ne) = r.kept i n (λ p. ne p.0) ((h.readers i).all n (is_so_at-at_client_back (is_following i) (keeping_moved from to) n xs (before i ne) n t))

    stays : (i : ℕ) → i ≡ from → Contains (readers_of left i) n → (is_so_at (is_following i) (at_client n (keeping_moved from to) xs) n ≡ true) ⊎ (is_so_at
        (is_following i) (at_client n (keeping_moved from to) xs) n ≡ false)
        → is_so_at (is_following i) (at_client n (keeping_moved from to) xs) n ≡ true
    stays i x c (inl t) = t
    stays i x c (inr u) = absurd (q.gone i (ap Some (sym x)) u c)

    out : (i : ℕ) → Contains (readers_of left i) n → (i ≡ to) ⊎ (i ≡ to → ⊥) → (i ≡ from) ⊎ (i ≡ from → ⊥) → is_so_at (is_following i) (at_client n
        (keeping_moved from to) xs) n ≡ true
    out i c (inl x) y = subst (λ z. is_so_at (is_following z) (at_client n (keeping_moved from to) xs) n ≡ true) (sym x)
        (r.only (subst (λ z. Contains (readers_of reading' z) n) x (q.only i n c)))
    out i c (inr ne) (inl y) = stays i y c (cases_Bool (is_so_at (is_following i) (at_client n (keeping_moved from to) xs) n))
    out i c (inr ne) (inr ny) = is_so_at-at_client_on (is_following i) (keeping_moved from to) n xs (λ k t. list_any-moved_other i from to k.subs ny t)
        ((h.readers i).only n (r.others i n (λ p. ne p.0) (q.only i n c)))

pub IsHall-keeping_closed : (most : ℕ) (xs ys : Places) (owing telling : Numbers) (reading left : List Readers) (n own : ℕ) (feed : Option ℕ)
    → IsHall most xs owing telling reading → feed ≡ option_and_then (λ (k : Kept). followed_by k.subs own) (client_at xs n)
    → ys ≡ at_client n (keeping_closed own) xs → HasKept n feed ys reading left → IsHall most ys owing telling left
IsHall-keeping_closed most xs ys owing telling reading left n own feed h is e kept =
    IsHall-at_client_following most xs ys owing telling reading left n (keeping_closed own) h e (λ k. refl) (λ k. refl) (λ k a. AreNumbered-filter (λ s. not
    (own == s.own)) k.given k.subs a)
    (λ i. AreThose-but_one (is_following i) n (readers_of reading i) (readers_of left i) xs (at_client n (keeping_closed own) xs) (h.readers i)
    (client_at-at_client_apart n
    (keeping_closed own) xs)
    (λ m ne c. q.kept i m (λ p. ne p.0) c) (λ m ne c. q.only i m c) (here i) (λ c. out i c (cases_Bool (is_so_at (is_following i) (at_client n
    (keeping_closed own) xs) n))))
  where
    q : HasKept n feed (at_client n (keeping_closed own) xs) reading left
    q = subst (λ z. HasKept n feed z reading left) e kept

    here : (i : ℕ) → is_so_at (is_following i) (at_client n (keeping_closed own) xs) n ≡ true → Contains (readers_of left i) n
    here i t = q.kept i n (λ p. false≢true (sym p.1 ∙ t))
        ((h.readers i).all n (is_so_at-at_client_back (is_following i) (keeping_closed own) n xs
        (λ k x. list_any-filter_feeds i (λ s. not (own == s.own)) k.subs x) n t))

    out : (i : ℕ) → Contains (readers_of left i) n → (is_so_at (is_following i) (at_client n (keeping_closed own) xs) n ≡ true) ⊎ (is_so_at (is_following i)
        (at_client n (keeping_closed own) xs) n ≡ false)
        → is_so_at (is_following i) (at_client n (keeping_closed own) xs) n ≡ true
    out i c (inl t) = t
    out i c (inr u) = absurd (q.gone i (is ∙ followed_by-keeping_closed i own (client_at xs n) (h.numbered n) ((h.readers i).only n (q.only i n c))
        (sym (is_so_at-at_client_here (is_following i) (keeping_closed own) n xs) ∙ u)) u c)

-- ---- one comes or goes

pub IsHall-coming : (most : ℕ) (xs ys : Places) (owing owing' telling telling' : Numbers) (reading reading' : List Readers) (n : ℕ) (role : Name)
    (user digest text : List ℕ)
    → IsHall most xs owing telling reading → HasLeft n (λ k. is_so_at (is_following k) xs n) reading reading' → HasLost n owing owing'
    → AreSet (λ m. m ≡ n) (is_told_at ys) telling telling'
    → ys ≡ set xs n (Some (coming role user digest text)) → IsHall most ys owing' telling' reading'
IsHall-coming most xs ys owing owing' telling telling' reading reading' n role user digest text h l o t e =
    let who = Some (coming role user digest text) in let zs = set xs n who in let b = length-set_slot n who xs in
    IsHall-set most xs ys owing owing' telling telling' reading reading' n who h e o l t.size
    (AreThose-AreSet_one is_told n xs zs telling telling' h.told (over zs ys telling telling' e t) (client_at-set_apart n who xs)
    (omega (arith, b, h.within, h.told_size)))
    refl (λ feed. refl) (λ k there. let is : coming role user digest text ≡ k = cc in subst (λ (z : Kept). AreNumbered z.given z.subs) is tt)

pub IsHall-set_None : (most : ℕ) (xs ys : Places) (owing owing' telling telling' : Numbers) (reading reading' : List Readers) (n : ℕ)
    → IsHall most xs owing telling reading → HasLeft n (λ k. is_so_at (is_following k) xs n) reading reading' → HasLost n owing owing'
    → HasLost n telling telling' → ys ≡ set xs n None → IsHall most ys owing' telling' reading'
IsHall-set_None most xs ys owing owing' telling telling' reading reading' n h l o t e =
    IsHall-set most xs ys owing owing' telling telling' reading reading' n None h e o l t.size
    (AreThose-but_one is_told n telling.list telling'.list xs (set xs n None) h.told (client_at-set_apart n None xs) t.kept (λ m ne c. t.only m c)
    (λ c. absurd (false≢true (true-is_so_at_set is_told n None xs c))) (λ c. absurd (t.gone c)))
    refl (λ feed. refl) (λ k there. cc)

-- who has something that may be sent, or is to go, is listed
pub Contains-is_due : (most : ℕ) (xs : Places) (owing telling : Numbers) (reading : List Readers) → IsHall most xs owing telling reading → (m : ℕ) (k : Kept)
    → client_at xs m ≡ Some k → is_due k ≡ true → Contains telling.list m
Contains-is_due most xs owing telling reading h m k there due = h.told.all m (is_so_at-client_at is_told xs m k there (is_told-is_due k due))

pub list_any-readers_of : (most : ℕ) (xs : Places) (owing telling : Numbers) (reading : List Readers) (ns : List ℕ) (feed : ℕ)
    → IsHall most xs owing telling reading
    → ns ≡ readers_of reading feed
    → list_any (λ n. if_some (client_at xs n) false (is_following feed)) ns ≡ is_followed_by feed xs
list_any-readers_of most xs owing telling reading ns feed h e = list_any-AreThose (is_following feed) ns xs
    (subst (λ z. AreThose (is_following feed) z xs) (sym e) (h.readers feed))

-- ---- all

pub walked-holding_owed : (xs : Places) (most : ℕ) (owing telling : Numbers) (reading : List Readers) (ns : List ℕ) (text : List ℕ)
    → IsHall most xs owing telling reading → ns ≡ owing.list → IsDistinct eqb ns
    → walked (holding_owed text) ns xs ≡ at_all (holding_owed text) xs
walked-holding_owed xs most owing telling reading ns text h e d = walked-AreThose is_owed (holding_owed text) ns xs d
    (subst (λ z. AreThose is_owed z xs) (sym e) h.owed) (holding_owed-not_owed text)

pub IsHall-holding_owed : (most : ℕ) (xs ys : Places) (owing owing' telling telling' : Numbers) (reading : List Readers) (ns text : List ℕ)
    → IsHall most xs owing telling reading → ns ≡ owing.list → AreSet (Contains ns) (is_told_at ys) telling telling'
    → ys ≡ at_all (holding_owed text) xs → owing' ≡ record { list = []; size = owing.size } → IsHall most ys owing' telling' reading
IsHall-holding_owed most xs ys owing owing' telling telling' reading ns text h same_list t e o =
    let f = holding_owed text in let zs = at_all f xs in
    IsHall-at_all most xs ys owing owing' telling telling' reading f h e (ap (λ (x : Numbers). x.size) o) t.size (FollowsAlike-holding_owed text)
    (AreThose-none is_owed owing'.list zs (ap (λ (x : Numbers). x.list) o) (λ m. is_so_at-at_all is_owed f xs m ∙ none (client_at xs m)))
    (AreThose-AreSet_some is_owed is_told f ns xs telling telling' (subst (λ z. AreThose is_owed z xs) (sym same_list) h.owed)
    (holding_owed-not_owed text) h.told
    (over zs ys telling telling' e t) (omega (arith, h.within, h.told_size)))
  where
    none : (o : Option Kept) → if_some (option_map (holding_owed text) o) false is_owed ≡ false
    none None = refl
    none (Some k) = owed-holding_owed text k

pub IsHall-holding_beat : (most : ℕ) (xs ys : Places) (owing telling telling' : Numbers) (reading : List Readers) (text : List ℕ)
    → IsHall most xs owing telling reading
    → AreSet (λ m. m < most) (is_told_at ys) telling telling' → ys ≡ at_all (holding_beat text) xs → IsHall most ys owing telling' reading
IsHall-holding_beat most xs ys owing telling telling' reading text h t e =
    let f = holding_beat text in let zs = at_all f xs in let l = length-at_all f xs in
    IsHall-at_all most xs ys owing owing telling telling' reading f h e refl t.size (λ k. record { given = refl; subs = refl })
    (AreThose-same is_owed owing.list xs zs (is_so_at-at_all_same is_owed f xs (λ k. refl)) h.owed)
    (AreThose-AreSet_below is_told most xs zs telling telling' h.told (over zs ys telling telling' e t) h.within (omega (arith, l, h.within)) h.told_size)

pub IsHall-checking : (most : ℕ) (xs ys : Places) (owing telling telling' : Numbers) (reading : List Readers) (tokens : List Token)
    → IsHall most xs owing telling reading → AreSet (λ m. m < most) (is_told_at ys) telling telling' → ys ≡ at_all (checking tokens) xs
    → IsHall most ys owing telling' reading
IsHall-checking most xs ys owing telling telling' reading tokens h t e =
    let f = checking tokens in let zs = at_all f xs in let l = length-at_all f xs in
    IsHall-at_all most xs ys owing owing telling telling' reading f h e refl t.size (FollowsAlike-checking tokens)
    (AreThose-same is_owed owing.list xs zs (is_so_at-at_all_same is_owed f xs (owed-checking tokens)) h.owed)
    (AreThose-AreSet_below is_told most xs zs telling telling' h.told (over zs ys telling telling' e t) h.within (omega (arith, l, h.within)) h.told_size)

pub walked-releasing : (xs : Places) (most : ℕ) (owing telling : Numbers) (reading : List Readers) (ns : List ℕ) → IsHall most xs owing telling reading
    → ns ≡ telling.list → IsDistinct eqb ns → walked releasing ns xs ≡ at_all releasing xs
walked-releasing xs most owing telling reading ns h e d =
    walked-AreThose is_told releasing ns xs d (subst (λ z. AreThose is_told z xs) (sym e) h.told) releasing-not_told

pub IsHall-releasing : (most : ℕ) (xs ys : Places) (owing telling : Numbers) (reading : List Readers) → IsHall most xs owing telling reading
    → ys ≡ at_all releasing xs
    → IsHall most ys owing telling reading
IsHall-releasing most xs ys owing telling reading h e =
    let zs = at_all releasing xs in
    IsHall-at_all most xs ys owing owing telling telling reading releasing h e refl refl FollowsAlike-releasing
    (AreThose-same is_owed owing.list xs zs (is_so_at-at_all_same is_owed releasing xs owed-releasing) h.owed)
    (AreThose-same is_told telling.list xs zs (is_so_at-at_all_same is_told releasing xs is_told-releasing) h.told)

pub walked-hearing_for : (xs : Places) (most : ℕ) (owing telling : Numbers) (reading : List Readers) (ns : List ℕ) (feed : ℕ) (rel : Name) (l : Line)
    → IsHall most xs owing telling reading → ns ≡ readers_of reading feed → IsDistinct eqb ns
    → walked (hearing_for feed rel l) ns xs ≡ at_all (hearing_for feed rel l) xs
walked-hearing_for xs most owing telling reading ns feed rel l h e d =
    walked-AreThose (is_following feed) (hearing_for feed rel l) ns xs d (subst (λ z. AreThose (is_following feed) z xs) (sym e) (h.readers feed))
    (hearing_for-not_following feed rel l)

pub IsHall-hearing_for : (most : ℕ) (xs ys : Places) (owing owing' telling telling' : Numbers) (reading : List Readers) (ns : List ℕ) (feed : ℕ) (rel : Name) (l : Line)
    → IsHall most xs owing telling reading → ns ≡ readers_of reading feed → feed_told l ≡ Some feed
    → HasGainedAll ns owing owing' → AreSet (Contains ns) (is_told_at ys) telling telling' → ys ≡ at_all (hearing_for feed rel l) xs
    → IsHall most ys owing' telling' reading
IsHall-hearing_for most xs ys owing owing' telling telling' reading ns feed rel l h same_list of o t e =
    IsHall-at_all most xs ys owing owing' telling telling' reading (hearing_for feed rel l) h e o.size t.size (λ k. FollowsAlike-holding_all (flat_map
    (told_for feed rel l) k.subs) k)
    (record { all = λ m x. all m (client_at xs m) refl (sym (is_so_at-at_all is_owed (hearing_for feed rel l) xs m) ∙ x); only = λ m c. only m (o.only m c) })
    (AreThose-AreSet_some (is_following feed) is_told (hearing_for feed rel l) ns xs telling telling' listed (hearing_for-not_following feed rel l) h.told
    (over (at_all
    (hearing_for feed rel l) xs) ys telling telling' e t)
    (omega (arith, h.within, h.told_size)))
  where
    listed : AreThose (is_following feed) ns xs
    listed = subst (λ z. AreThose (is_following feed) z xs) (sym same_list) (h.readers feed)

    owed : (m : ℕ) (k : Kept) → client_at xs m ≡ Some k → is_owed (hearing_for feed rel l k) ≡ true → (is_following feed k ≡ true) ⊎
        (is_following feed k ≡ false)
        → Contains owing'.list m
    owed m k there is (inl x) = let b = lt-client_at xs m k there in o.put m (omega (arith, b, h.within, h.owed_size))
        (listed.all m (is_so_at-client_at (is_following feed) xs m k there x))
    owed m k there is (inr x) =
        o.kept m (h.owed.all m (is_so_at-client_at is_owed xs m k there (ap is_owed (sym (hearing_for-not_following feed rel l k x)) ∙ is)))

    all : (m : ℕ) (who : Option Kept) → client_at xs m ≡ who → if_some (option_map (hearing_for feed rel l) who) false is_owed ≡ true → Contains owing'.list m
    all m None there x = absurd (false≢true x)
    all m (Some k) there x = owed m k there x (cases_Bool (is_following feed k))

    heard : (who : Option Kept) → if_some who false (is_following feed) ≡ true → if_some (option_map (hearing_for feed rel l) who) false is_owed ≡ true
    heard None x = x
    heard (Some k) x = owed-hearing_for feed rel l k of x

    only : (m : ℕ) → Contains owing.list m ⊎ Contains ns m → is_so_at is_owed (at_all (hearing_for feed rel l) xs) m ≡ true
    only m (inl c) =
        is_so_at-at_all_on is_owed (hearing_for feed rel l) xs (λ k x. owed-holding_all (flat_map (told_for feed rel l) k.subs) k x) m (h.owed.only m c)
    only m (inr c) = is_so_at-at_all is_owed (hearing_for feed rel l) xs m ∙ heard (client_at xs m) (listed.only m c)
