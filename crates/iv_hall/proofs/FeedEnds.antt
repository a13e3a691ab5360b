-- Who follows a feed no more that lines end.
use Rattle.std.proofs.Common.{◌≡◌, ◌∙◌, ◌⊎◌, inl, inr, ℕ, ◌+◌, ◌<◌, Bool, true, false, ◌||◌, cond, not, eqb, List, [], ◌∷◌, ◌++◌, length, map, take, get_or}
use Rattle.std.proofs.Common.{filter, Option, Some, None, option_map, refl, ap, sym, subst, arith}
use Rattle.std.specs.Prelude.{◌==◌}
use Rattle.std.specs.List.{IsDistinct, list_any}
use Rattle.std.proofs.lemmas.Bool.{cases_eq, eq-eqb, eqb-false, ne_eqb, or_parts}
use Rattle.std.proofs.lemmas.List.{map_more}
use Rattle.std.proofs.lemmas.List.Folds.{list_any-append}
use Rattle.iv_machine.specs.Act.{Line, reply, change, ended}
use Rattle.iv_rows.specs.Options.{if_some}
use Rattle.iv_clients.specs.Clients.{Sub, at_all, client_at}
use Rattle.iv_clients.specs.Feeds.{ends_in, is_end}
use Rattle.iv_clients.specs.Kept.{Kept, Places, is_following, is_told, keeping_on}
use Rattle.iv_clients.proofs.Slots.{length-at_all}
use Rattle.iv_hall.specs.Hall.{IsHall, is_owed}
use Rattle.iv_hall.specs.Hearing.{feed_ended}
use Rattle.iv_hall.specs.Listing.{AreThose, walked}
use Rattle.iv_hall.specs.Numbers.{Numbers}
use Rattle.iv_hall.specs.Readers.{Readers, readers_of}
use Rattle.iv_hall.proofs.EachClient.{at_all-at_all, at_all-same, at_all-itself}
use Rattle.iv_hall.proofs.FeedReaders.{readers_of-filter_own, readers_of-filter_other}
use Rattle.iv_hall.proofs.OwnNumbers.{AreAllNumbered-at_all, AreNumbered-filter}
use Rattle.iv_hall.proofs.ClientLists.{is_so_at-at_all_same, is_so_at-at_all, AreThose-none, AreThose-same}
use Rattle.iv_hall.proofs.ClientWalks.{walked-AreThose}

-- the line ends this feed
abbrev pub IsEnding : ℕ → Line → Type 0
IsEnding k l = (f : ℕ) → is_end f l ≡ (f == k)

-- the line ends nothing
abbrev pub IsNoEnd : Line → Type 0
IsNoEnd l = (f : ℕ) → is_end f l ≡ false

filter_whole : (q : Sub → Bool) (subs : List Sub) → ((s : Sub) → q s ≡ true) → filter q subs ≡ subs
filter_whole q [] h = refl
filter_whole q (s ∷ ss) h = ap (λ b. cond b (s ∷ filter q ss) (filter q ss)) (h s) ∙ ap (λ z. s ∷ z) (filter_whole q ss h)

unfollowed : (k : ℕ) (l : Line) (subs : List Sub) → IsEnding k l → list_any (λ (s : Sub). k == s.feed) subs ≡ false
    → filter (λ (s : Sub). not (ends_in (l ∷ []) s.feed)) subs ≡ subs
unfollowed k l [] e h = refl
unfollowed k l (s ∷ ss) e h =
    let p = or_parts (k == s.feed) (list_any (λ (x : Sub). k == x.feed) ss) h in
    let off : is_end s.feed l ≡ false = e s.feed ∙ ne_eqb s.feed k (λ x. eqb-false k s.feed p.0 (sym x)) in
    ap (λ b. cond (not (b || false)) (s ∷ filter (λ (x : Sub). not (ends_in (l ∷ []) x.feed)) ss) (filter (λ (x : Sub). not (ends_in (l ∷ []) x.feed)) ss)) off
    ∙ ap (λ z. s ∷ z) (unfollowed k l ss e p.1)

-- who does not follow what a line ends goes on as it is
pub stays_still : (k : ℕ) (l : Line) (c : Kept) → IsEnding k l → is_following k c ≡ false → keeping_on (l ∷ []) c ≡ c
stays_still k l c e h i = record c { subs = unfollowed k l c.subs e h i }

-- nobody follows it then
none_follow : (k : ℕ) (l : Line) (subs : List Sub) → IsEnding k l → list_any (λ (s : Sub). k == s.feed)
    (filter (λ (s : Sub). not (ends_in (l ∷ []) s.feed)) subs) ≡ false
none_follow k l [] e = refl
none_follow k l (s ∷ ss) e = by (cases_eq s.feed k) (none_follow k l ss e)
  where
    by : (s.feed ≡ k) ⊎ (s.feed ≡ k → ⊥) → list_any (λ (y : Sub). k == y.feed) (filter (λ (y : Sub). not (ends_in (l ∷ []) y.feed)) ss) ≡ false
        → list_any (λ (x : Sub). k == x.feed) (filter (λ (x : Sub). not (ends_in (l ∷ []) x.feed)) (s ∷ ss)) ≡ false
    by (inl x) rest =
        ap (λ b. list_any (λ (y : Sub). k == y.feed) (cond (not (b || false)) (s ∷ filter (λ (y : Sub). not (ends_in (l ∷ []) y.feed)) ss)
        (filter (λ (y : Sub). not (ends_in (l ∷ []) y.feed)) ss))) (e s.feed ∙ eq-eqb s.feed k x)
        ∙ rest
    by (inr x) rest =
        ap (λ b. list_any (λ (y : Sub). k == y.feed) (cond (not (b || false)) (s ∷ filter (λ (y : Sub). not (ends_in (l ∷ []) y.feed)) ss)
        (filter (λ (y : Sub). not (ends_in (l ∷ []) y.feed)) ss))) (e s.feed ∙ ne_eqb s.feed k x)
        ∙ (ap (λ b. b || list_any (λ (y : Sub). k == y.feed) (filter (λ (y : Sub). not (ends_in (l ∷ []) y.feed)) ss)) (ne_eqb k s.feed (λ y. x (sym y)))
        ∙ rest)

-- what is followed behind a line
abbrev followed_on : Line → List Sub → List Sub
followed_on l subs = filter (λ (s : Sub). not (ends_in (l ∷ []) s.feed)) subs

-- all other feeds are followed on
others_follow : (k feed : ℕ) (l : Line) (subs : List Sub) → IsEnding k l → (feed ≡ k → ⊥)
    → list_any (λ (s : Sub). feed == s.feed) (followed_on l subs) ≡ list_any (λ (s : Sub). feed == s.feed) subs
others_follow k feed l [] e ne = refl
others_follow k feed l (s ∷ ss) e ne = by (cases_eq s.feed k) (others_follow k feed l ss e ne)
  where
    by : (s.feed ≡ k) ⊎ (s.feed ≡ k → ⊥) → list_any (λ (x : Sub). feed == x.feed) (followed_on l ss) ≡ list_any (λ (x : Sub). feed == x.feed) ss
        → list_any (λ (x : Sub). feed == x.feed) (cond (not (is_end s.feed l || false)) (s ∷ followed_on l ss) (followed_on l ss)) ≡ list_any (λ
        (x : Sub). feed == x.feed) (s ∷ ss)
    by (inl x) rest =
        ap (λ b. list_any (λ (y : Sub). feed == y.feed) (cond (not (b || false)) (s ∷ followed_on l ss) (followed_on l ss))) (e s.feed ∙ eq-eqb s.feed k x)
        ∙ (rest ∙ ap (λ b. b || list_any (λ (y : Sub). feed == y.feed) ss) (sym (ne_eqb feed s.feed (λ y. ne (y ∙ x)))))
    by (inr x) rest =
        ap (λ b. list_any (λ (y : Sub). feed == y.feed) (cond (not (b || false)) (s ∷ followed_on l ss) (followed_on l ss))) (e s.feed ∙ ne_eqb s.feed k x)
        ∙ ap (λ b. (feed == s.feed) || b) rest

pub walked-keeping_on : (xs : Places) (most : ℕ) (owing telling : Numbers) (reading : List Readers) (ns : List ℕ) (k : ℕ) (l : Line)
    → IsHall most xs owing telling reading → IsEnding k l → ns ≡ readers_of reading k → IsDistinct eqb ns
    → walked (keeping_on (l ∷ [])) ns xs ≡ at_all (keeping_on (l ∷ [])) xs
walked-keeping_on xs most owing telling reading ns k l h e is d =
    walked-AreThose (is_following k) (keeping_on (l ∷ [])) ns xs d (subst (λ z. AreThose (is_following k) z xs) (sym is) (h.readers k))
    (λ c. stays_still k l c e)

pub IsHall-keeping_on : (most : ℕ) (xs ys : Places) (owing telling : Numbers) (reading left : List Readers) (k : ℕ) (l : Line)
    → IsHall most xs owing telling reading
    → IsEnding k l → ys ≡ at_all (keeping_on (l ∷ [])) xs
    → left ≡ filter (λ r. not (k == r.feed)) reading → IsHall most ys owing telling left
IsHall-keeping_on most xs ys owing telling reading left k l h e is gone = subst (λ z. IsHall most z owing telling left) (sym is) (record {
  within = omega (arith, h.within, length-at_all (keeping_on (l ∷ [])) xs);
  owed_size = h.owed_size;
  told_size = h.told_size;
  owed = AreThose-same is_owed owing.list xs (at_all (keeping_on (l ∷ [])) xs) (is_so_at-at_all_same is_owed (keeping_on (l ∷ [])) xs (λ c. refl)) h.owed;
  told = AreThose-same is_told telling.list xs (at_all (keeping_on (l ∷ [])) xs) (is_so_at-at_all_same is_told (keeping_on (l ∷ [])) xs (λ c. refl)) h.told;
  readers = λ feed. by feed (cases_eq feed k);
  numbered = AreAllNumbered-at_all (keeping_on (l ∷ [])) xs (λ c a. AreNumbered-filter (λ s. not (ends_in (l ∷ []) s.feed)) c.given c.subs a) h.numbered;
})
  where
    none : (feed : ℕ) → feed ≡ k → (o : Option Kept) → if_some (option_map (keeping_on (l ∷ [])) o) false (is_following feed) ≡ false
    none feed x None = refl
    none feed x (Some c) = ap (λ z. list_any (λ (s : Sub). z == s.feed) (followed_on l c.subs)) x ∙ none_follow k l c.subs e

    by : (feed : ℕ) → (feed ≡ k) ⊎ (feed ≡ k → ⊥) → AreThose (is_following feed) (readers_of left feed) (at_all (keeping_on (l ∷ [])) xs)
    by feed (inl x) = AreThose-none (is_following feed) (readers_of left feed) (at_all (keeping_on (l ∷ [])) xs)
        ((λ i. readers_of (gone i) (x i)) ∙ readers_of-filter_own reading k)
        (λ m. is_so_at-at_all (is_following feed) (keeping_on (l ∷ [])) xs m ∙ none feed x (client_at xs m))
    by feed (inr ne) = subst (λ ns. AreThose (is_following feed) ns (at_all (keeping_on (l ∷ [])) xs)) (sym (ap (λ z. readers_of z feed) gone
        ∙ readers_of-filter_other reading k feed ne))
        (AreThose-same (is_following feed) (readers_of reading feed) xs (at_all (keeping_on (l ∷ [])) xs)
        (is_so_at-at_all_same (is_following feed) (keeping_on (l ∷ [])) xs (λ c. others_follow k feed l c.subs e ne)) (h.readers feed))

-- which lines end a feed
pub IsEnding-feed_ended : (l : Line) (k : ℕ) → Some k ≡ feed_ended l → IsEnding k l
IsEnding-feed_ended (reply n r) k e = cc
IsEnding-feed_ended (change n j rows) k e = cc
IsEnding-feed_ended (ended n j why rows) k e = let same : k ≡ j = cc in λ f. ap (λ z. f == z) (sym same)

pub IsNoEnd-feed_ended : (l : Line) → None ≡ feed_ended l → IsNoEnd l
IsNoEnd-feed_ended (reply n r) e = λ f. refl
IsNoEnd-feed_ended (change n j rows) e = λ f. refl
IsNoEnd-feed_ended (ended n j why rows) e = cc

-- ---- lines

pub at_all-keeping_on_IsNoEnd : (l : Line) (xs : Places) → IsNoEnd l → xs ≡ at_all (keeping_on (l ∷ [])) xs
at_all-keeping_on_IsNoEnd l xs e = at_all-itself (keeping_on (l ∷ [])) (λ c i. record c {
  subs =
      sym (filter_whole (λ (s : Sub). not (ends_in (l ∷ []) s.feed)) c.subs (λ s. ap (λ b. not (b || false)) (e s.feed))) i;
}) xs

pub at_all-keeping_on_none : (xs : Places) → xs ≡ at_all (keeping_on []) xs
at_all-keeping_on_none xs =
    at_all-itself (keeping_on []) (λ c i. record c { subs = sym (filter_whole (λ (s : Sub). not (ends_in [] s.feed)) c.subs (λ s. refl)) i }) xs

filter_twice : (p q r : Sub → Bool) → ((s : Sub) → r s ≡ (p s || q s)) → (subs : List Sub)
    → filter (λ s. not (q s)) (filter (λ s. not (p s)) subs) ≡ filter (λ s. not (r s)) subs
filter_twice p q r e [] = refl
filter_twice p q r e (s ∷ ss) = by (p s) (filter_twice p q r e ss) ∙ ap (λ b. cond (not b) (s ∷ filter (λ x. not (r x)) ss) (filter (λ x. not (r x)) ss))
    (sym (e s))
  where
    inner : (b : Bool) → filter (λ x. not (q x)) (filter (λ x. not (p x)) ss) ≡ filter (λ x. not (r x)) ss
        → cond (not b) (s ∷ filter (λ x. not (q x)) (filter (λ x. not (p x)) ss)) (filter (λ x. not (q x)) (filter (λ x. not (p x)) ss)) ≡ cond (not b)
        (s ∷ filter (λ x. not (r x)) ss) (filter (λ x. not (r x)) ss)
    inner true rest = rest
    inner false rest = ap (λ z. s ∷ z) rest

    by : (b : Bool) → filter (λ x. not (q x)) (filter (λ x. not (p x)) ss) ≡ filter (λ x. not (r x)) ss
        → filter (λ x. not (q x)) (cond (not b) (s ∷ filter (λ x. not (p x)) ss) (filter (λ x. not (p x)) ss)) ≡ cond (not (b || q s))
        (s ∷ filter (λ x. not (r x)) ss) (filter (λ x. not (r x)) ss)
    by true rest = rest
    by false rest = inner (q s) rest

line_more : (ls : List Line) (l : Line) (c : Kept) → keeping_on (l ∷ []) (keeping_on ls c) ≡ keeping_on (ls ++ l ∷ []) c
line_more ls l c i = record c {
  subs = filter_twice (λ s. ends_in ls s.feed) (λ s. ends_in (l ∷ []) s.feed) (λ s. ends_in (ls ++ l ∷ []) s.feed)
      (λ s. list_any-append (is_end s.feed) ls (l ∷ [])) c.subs i;
}

all_more : (ls : List Line) (l : Line) (xs : Places) → at_all (keeping_on (l ∷ [])) (at_all (keeping_on ls) xs) ≡ at_all (keeping_on (ls ++ l ∷ [])) xs
all_more ls l xs = at_all-at_all (keeping_on (l ∷ [])) (keeping_on ls) xs ∙ at_all-same (λ c. keeping_on (l ∷ []) (keeping_on ls c)) (keeping_on (ls ++ l ∷ []))
    (line_more ls l) xs

-- one line more of a list
pub at_all-keeping_on_next : {A : Type 0} (read : A → Line) (xs : List A) (i : ℕ) (x : A) (places before now : Places) → i < length xs → x ≡ get_or xs i x
    → before ≡ at_all (keeping_on (map read (take i xs))) places → now ≡ at_all (keeping_on (read x ∷ [])) before
    → now ≡ at_all (keeping_on (map read (take (i + 1) xs))) places
at_all-keeping_on_next read xs i x places before now lt is e g =
    g ∙ (ap (at_all (keeping_on (read x ∷ []))) e ∙ (all_more (map read (take i xs)) (read x) places
    ∙ ap (λ ls. at_all (keeping_on ls) places) (ap (λ y. map read (take i xs) ++ read y ∷ []) is ∙ sym (map_more read xs i x lt))))
