-- On which relations roles may do more by a step, as the code finds and tells it.
use Rattle.std.proofs.Common.{◌≡◌, ◌∙◌, ℕ, zero, suc, ◌+◌, ◌<◌, ◌≤◌, Bool, true, false, cond, not, ◌||◌, List, [], ◌∷◌, ◌++◌, length, take, get_or, map, find, Option, Some, None, is_some, option_map, refl, ap, sym, subst, append-nil, append_assoc, arith}
use Rattle.std.specs.Prelude.{◌==◌, ◌&&◌, bytes_eq, filter, flat_map, nat_lt, option_and_then}
use Rattle.std.specs.List.{AllByRecursion, list_all, list_any}
use Rattle.std.proofs.lemmas.Bool.{false≢true, eqb-true}
use Rattle.std.proofs.lemmas.Bool.Decides.{nat_tests}
use Rattle.std.proofs.lemmas.List.{map_more, map-append}
use Rattle.std.proofs.lemmas.List.Concat.{flat_map-append}
use Rattle.std.proofs.lemmas.List.Elements.{filter-append}
use Rattle.std.proofs.lemmas.Option.{option_and_then_some, slice_get_past}
use Rattle.std.proofs.lemmas.Slice.Eq.{bytes_eq-Decides}
use Rattle.iv_rows.specs.Options.{if_some}
use Rattle.iv_bind.specs.Catalogs.{CatalogEntry, named}
use Rattle.iv_access.specs.Privileges.{has, role_of}
use Rattle.iv_access.specs.declared.privilege.Privilege.{Privilege}
use Rattle.iv_access.specs.declared.privilege.Privilege.TheVariants.{Select, Insert, Update, Delete}
use Rattle.iv_access.specs.Rights.{Name}
use Rattle.iv_machine.specs.Act.{Act, Line, Refusal, begin, finish, write}
use Rattle.iv_machine.specs.Changing.{after_catalog, after_rights}
use Rattle.iv_machine.specs.Machine.{Outcome, outcome, step}
use Rattle.iv_machine.specs.Refusing.{refusal}
use Rattle.iv_machine.specs.State.{Frame, State}
use Rattle.iv_message.specs.Lines.{IsLine}
use Rattle.iv_message.specs.Told.{Told, granted, told_text}
use Rattle.iv_clients.specs.Clients.{at_all, at_client, client_at, own_lines}
use Rattle.iv_clients.specs.Feeds.{Feed}
use Rattle.iv_records.specs.Journal.{Request}
use Rattle.iv_clients.specs.Kept.{Kept, Places, holding, holding_all}
use Rattle.iv_clients.proofs.Slots.{same-Some, not_None-Some}
use Rattle.iv_hall.specs.Hearing.{hearing_lines}
use Rattle.iv_engine.specs.Known.{has_any, has_on, has_some, relations_with}
use Rattle.iv_engine.specs.Stepped.{is_write}
use Rattle.iv_steps.specs.Steps.{all_carried, among, carried, is_shared, looked_at, passed, shared, stepped}
use Rattle.iv_gate.specs.Arriving.{fact_of, gains, newly}
use Rattle.iv_notices.specs.Granting.{text_granted}
use Rattle.iv_notices.specs.Newly.{AreBefore, AreNewly, Held, IsReadable, Newly, Readable, allowed_before, allowed_in, hearing_newly, held_in, is_among, is_more, is_new, newly_in, nothing, only_new, text_for}
use Rattle.iv_notices.specs.declared.newly.Allowed.{Allowed}
use Rattle.iv_notices.proofs.GrantTexts.{both_all, holding_all-holding, role_held, at_all-same, at_all-identity}
use Rattle.iv_notices.proofs.ClientChanges.{length-told_text}

-- ---- roles are gathered

pub all_more : (f : Frame) (rs : List Readable) (r : Readable) → AllByRecursion (IsReadable f) rs → IsReadable f r → AllByRecursion (IsReadable f) (rs ++ r ∷ [])
all_more f [] r w h = (h, tt)
all_more f (x ∷ rs) r w h = (w.0, all_more f rs r w.1 h)

either : (a b : Bool) → b ≡ true → (a || b) ≡ true
either true b h = refl
either false b h = h

-- one more is among them, and nobody is not any more
pub among_more : (rs : List Readable) (r : Readable) (role : Name) → r.role ≡ role → is_among (rs ++ r ∷ []) role ≡ true
among_more [] r role h = ap (λ b. b || false) ((bytes_eq-Decides r.role role).1 h)
among_more (x ∷ rs) r role h = either (bytes_eq x.role role) (is_among (rs ++ r ∷ []) role) (among_more rs r role h)

pub among_still : (rs : List Readable) (r : Readable) (role : Name) → is_among rs role ≡ true → is_among (rs ++ r ∷ []) role ≡ true
among_still [] r role h = absurd (false≢true h)
among_still (x ∷ rs) r role h = by (bytes_eq x.role role) (λ k. among_still rs r role k) h
  where
    by : (b : Bool) → (is_among rs role ≡ true → is_among (rs ++ r ∷ []) role ≡ true) → (b || is_among rs role) ≡ true → (b || is_among (rs ++ r ∷ []) role) ≡ true
    by true later h = refl
    by false later h = later h

-- nobody is at a number beyond the last
pub nobody_there : {C : Type 0} (places : List (Option C)) (m : ℕ) (k : C) → length places ≤ m → client_at places m ≡ Some k → ⊥
nobody_there places m k h e = not_None-Some k (sym e ∙ ap (option_and_then (λ x. x)) (slice_get_past places m h))

less : (m n : ℕ) → m < n + 1 → (m == n) ≡ false → m < n
less m n h e = grind (arith, nat_tests)

-- the roles of clients up to a number
pub more_roles : (before now : List Readable) (places : Places) (n : ℕ)
    → ((m : ℕ) (k : Kept) → m < n → client_at places m ≡ Some k → is_among before k.role ≡ true)
    → ((k : Kept) → client_at places n ≡ Some k → is_among now k.role ≡ true) → ((role : Name) → is_among before role ≡ true → is_among now role ≡ true)
    → (m : ℕ) (k : Kept) → m < n + 1 → client_at places m ≡ Some k → is_among now k.role ≡ true
more_roles before now places n old one still m k lt there = by (m == n) refl
  where
    by : (b : Bool) → (m == n) ≡ b → is_among now k.role ≡ true
    by true e = one k (subst (λ j. client_at places j ≡ Some k) (eqb-true m n e) there)
    by false e = still k.role (old m k (less m n lt e) there)

within : (m n : ℕ) → nat_lt m n ≡ true → m < n
within m n e = grind (arith, nat_tests)

beyond : (l m n : ℕ) → l ≤ n → nat_lt m n ≡ false → l ≤ m
beyond l m n h e = grind (arith, nat_tests)

pub all_roles : (rs : List Readable) (places : Places) (n : ℕ) → length places ≤ n
    → ((m : ℕ) (k : Kept) → m < n → client_at places m ≡ Some k → is_among rs k.role ≡ true)
    → (m : ℕ) (k : Kept) → client_at places m ≡ Some k → is_among rs k.role ≡ true
all_roles rs places n h old m k there = by (nat_lt m n) refl
  where
    by : (b : Bool) → nat_lt m n ≡ b → is_among rs k.role ≡ true
    by true e = old m k (within m n e) there
    by false e = absurd (nobody_there places m k (beyond (length places) m n h e) there)

-- ---- the names of relations

-- one more of what was gathered
pub one_gathered : {A B : Type 0} (read : A → B) (xs : List A) (i : ℕ) (d : A) (before now : List B) (one : B) → i < length xs → before ≡ map read (take i xs)
    → now ≡ before ++ one ∷ [] → one ≡ read (get_or xs i d) → now ≡ map read (take (i + 1) xs)
one_gathered read xs i d before now one lt b n o = n ∙ ((λ j. b j ++ o j ∷ []) ∙ sym (map_more read xs i d lt))

-- and of what is made of it
pub one_held : {A B C : Type 0} (read : A → B) (make : B → C) (xs : List A) (i : ℕ) (d : A) (before now : List C) (one : C) → i < length xs
    → before ≡ map make (map read (take i xs)) → now ≡ before ++ one ∷ [] → one ≡ make (read (get_or xs i d)) → now ≡ map make (map read (take (i + 1) xs))
one_held read make xs i d before now one lt b n o =
    n ∙ ((λ j. b j ++ o j ∷ []) ∙ sym (ap (map make) (map_more read xs i d lt) ∙ map-append make (map read (take i xs)) (read (get_or xs i d) ∷ [])))

-- one more of a list
pub rel_next : {A : Type 0} (read : A → Name) (f : Frame) (r : Readable) (xs : List A) (i : ℕ) (d : A) (start before now : List ℕ) → i < length xs
    → before ≡ start ++ text_granted (only_new f r (map read (take i xs)))
    → now ≡ before ++ text_granted (only_new f r (read (get_or xs i d) ∷ [])) → now ≡ start ++ text_granted (only_new f r (map read (take (i + 1) xs)))
rel_next read f r xs i d start before now lt e g =
    g ∙ (ap (λ z. z ++ text_granted (only_new f r (read (get_or xs i d) ∷ []))) e
    ∙ (append_assoc start (text_granted (only_new f r (map read (take i xs)))) (text_granted (only_new f r (read (get_or xs i d) ∷ [])))
    ∙ ap (λ z. start ++ z) (sym more)))
  where
    more : text_granted (only_new f r (map read (take (i + 1) xs)))
        ≡ text_granted (only_new f r (map read (take i xs))) ++ text_granted (only_new f r (read (get_or xs i d) ∷ []))
    more =
        ap (λ z. text_granted (only_new f r z)) (map_more read xs i d lt)
        ∙ (ap text_granted (filter-append (is_new f r) (map read (take i xs)) (read (get_or xs i d) ∷ []))
        ∙ (ap (flat_map told_text) (map-append granted (only_new f r (map read (take i xs))) (only_new f r (read (get_or xs i d) ∷ [])))
        ∙ flat_map-append told_text (map granted (only_new f r (map read (take i xs)))) (map granted (only_new f r (read (get_or xs i d) ∷ [])))))

pub one_old : (f : Frame) (r : Readable) (rel : Name) (text : List ℕ) → is_new f r rel ≡ false → text ≡ text ++ text_granted (only_new f r (rel ∷ []))
one_old f r rel text h = sym (append-nil text) ∙ ap (λ b. text ++ text_granted (cond b (rel ∷ []) [])) (sym h)

pub one_new : (f : Frame) (r : Readable) (rel : Name) (text now : List ℕ) → is_new f r rel ≡ true → now ≡ text ++ told_text (granted rel)
    → now ≡ text ++ text_granted (only_new f r (rel ∷ []))
one_new f r rel text now h e =
    e ∙ (ap (λ z. text ++ z) (sym (append-nil (told_text (granted rel)))) ∙ ap (λ b. text ++ text_granted (cond b (rel ∷ []) [])) (sym h))

-- ---- what a role is told

-- whose role has something to hear is told it, at its number
pub heard_at : (ns : List Newly) (n : ℕ) (places : Places)
    → (length (if_some (client_at places n) [] (λ (k : Kept). text_for ns k.role)) == 0) ≡ false
    → at_client n (holding (if_some (client_at places n) [] (λ (k : Kept). text_for ns k.role))) places ≡ at_client n (hearing_newly ns) places
heard_at ns n [] h = refl
heard_at ns zero (None ∷ os) h = refl
heard_at ns zero (Some k ∷ os) h = ap (λ b. Some (cond b k (holding (text_for ns k.role) k)) ∷ os) (sym h)
heard_at ns (suc n) (o ∷ os) h = ap (λ z. o ∷ z) (heard_at ns n os h)

pub not_heard_at : (ns : List Newly) (n : ℕ) (places : Places)
    → (length (if_some (client_at places n) [] (λ (k : Kept). text_for ns k.role)) == 0) ≡ true
    → places ≡ at_client n (hearing_newly ns) places
not_heard_at ns n [] h = refl
not_heard_at ns zero (None ∷ os) h = refl
not_heard_at ns zero (Some k ∷ os) h = ap (λ b. Some (cond b k (holding (text_for ns k.role) k)) ∷ os) (sym h)
not_heard_at ns (suc n) (o ∷ os) h = ap (λ z. o ∷ z) (not_heard_at ns n os h)

-- where all texts are empty nobody is told anything
empty_for : (ns : List Newly) (role : Name) → list_all (λ n. length n.text == 0) ns ≡ true → (length (text_for ns role) == 0) ≡ true
empty_for [] role h = refl
empty_for (n ∷ ns) role h = by (λ k. empty_for ns role k) (bytes_eq n.role role) (length n.text == 0) refl h
  where
    by : (list_all (λ x. length x.text == 0) ns ≡ true → (length (text_for ns role) == 0) ≡ true) → (b e : Bool) → (length n.text == 0) ≡ e
        → (e && list_all (λ x. length x.text == 0) ns) ≡ true
        → (length (if_some (cond b (Some n) (find (λ x. bytes_eq x.role role) ns)) [] (λ x. x.text)) == 0) ≡ true
    by later true true p h = p
    by later false true p h = later h
    by later b false p h = absurd (false≢true h)

pub nobody_hears : (ns : List Newly) (places : Places) → list_all (λ n. length n.text == 0) ns ≡ true → places ≡ at_all (hearing_newly ns) places
nobody_hears ns places h =
    at_all-identity places ∙ at_all-same (λ k. k) (hearing_newly ns)
    (λ k. ap (λ b. cond b k (holding (text_for ns k.role) k)) (sym (empty_for ns k.role h))) places

-- ---- what is new

-- a relation that has a name is among the names
named_there : (es : List CatalogEntry) (rel : Name) (e : CatalogEntry) → named es rel ≡ Some e → list_any (λ x. bytes_eq x rel) (map (λ (d : CatalogEntry). d.name) es) ≡ true
named_there [] rel e h = cc
named_there (d ∷ es) rel e h = by (λ k. named_there es rel e k) (bytes_eq rel d.name) refl h
  where
    by : (named es rel ≡ Some e → list_any (λ x. bytes_eq x rel) (map (λ (c : CatalogEntry). c.name) es) ≡ true) → (b : Bool) → bytes_eq rel d.name ≡ b → cond b (Some d) (named es rel) ≡ Some e
        → (bytes_eq d.name rel || list_any (λ x. bytes_eq x rel) (map (λ (c : CatalogEntry). c.name) es)) ≡ true
    by later true k h = ap (λ t. t || list_any (λ x. bytes_eq x rel) (map (λ (c : CatalogEntry). c.name) es))
        ((bytes_eq-Decides d.name rel).1 (sym ((bytes_eq-Decides rel d.name).0 k)))
    by later false k h = either (bytes_eq d.name rel) (list_any (λ x. bytes_eq x rel) (map (λ (c : CatalogEntry). c.name) es)) (later h)

-- a relation on which a role has a privilege has a name
some_there : (f : Frame) (role rel : Name) → has_some f role rel ≡ true → list_any (λ x. bytes_eq x rel) (map (λ e. e.name) f.catalog) ≡ true
some_there f role rel h = by (role_of f.rights role) (named f.catalog rel) refl h
  where
    by : (r : Option ℕ) (o : Option CatalogEntry) → named f.catalog rel ≡ o → if_some r false (λ r. if_some o false (λ e. has_any f.rights r e.rel)) ≡ true
        → list_any (λ x. bytes_eq x rel) (map (λ e. e.name) f.catalog) ≡ true
    by None o e h = absurd (false≢true h)
    by (Some r) None e h = absurd (false≢true h)
    by (Some r) (Some d) e h = named_there f.catalog rel d e

-- who has none of these may do nothing
none_of_four : (a b c d : Bool) → (a || (b || (c || (d || false)))) ≡ false → record { select = a; insert = b; update = c; delete = d } ≡ nothing
none_of_four false false false false h = refl
none_of_four true b c d h = absurd (false≢true (sym h))
none_of_four false true c d h = absurd (false≢true (sym h))
none_of_four false false true d h = absurd (false≢true (sym h))
none_of_four false false false true h = absurd (false≢true (sym h))

none_allowed : (f : Frame) (role rel : Name) → has_some f role rel ≡ false → allowed_in f role rel ≡ nothing
none_allowed f role rel h = by (role_of f.rights role) (named f.catalog rel) h
  where
    asked : Option ℕ → Option CatalogEntry → Privilege → Bool
    asked r o p = if_some r false (λ r. if_some o false (λ e. has f.rights r p e.rel))

    by : (r : Option ℕ) (o : Option CatalogEntry) → if_some r false (λ r. if_some o false (λ e. has_any f.rights r e.rel)) ≡ false
        → record { select = asked r o Select; insert = asked r o Insert; update = asked r o Update; delete = asked r o Delete } ≡ nothing
    by None o h = refl
    by (Some r) None h = refl
    by (Some r) (Some e) h = none_of_four (has f.rights r Select e.rel) (has f.rights r Insert e.rel) (has f.rights r Update e.rel) (has f.rights r Delete e.rel) h

-- what is told of the names that are left, of which it has something on each
found : (f : Frame) (role rel : Name) (xs : List Name)
    → allowed_before (map (held_in f role) (filter (has_some f role) xs)) rel ≡ cond (list_any (λ x. bytes_eq x rel) xs) (allowed_in f role rel) nothing
found f role rel [] = refl
found f role rel (x ∷ xs) = by (bytes_eq x rel) (has_some f role x) refl refl (found f role rel xs)
  where
    rest : List Held
    rest = map (held_in f role) (filter (has_some f role) xs)

    others : Bool
    others = list_any (λ y. bytes_eq y rel) xs

    either_way : (b : Bool) (a : Allowed) → a ≡ nothing → cond b a nothing ≡ a
    either_way true a h = refl
    either_way false a h = sym h

    by : (b k : Bool) → bytes_eq x rel ≡ b → has_some f role x ≡ k → allowed_before rest rel ≡ cond others (allowed_in f role rel) nothing
        → allowed_before (map (held_in f role) (cond k (x ∷ filter (has_some f role) xs) (filter (has_some f role) xs))) rel ≡ cond (b || others) (allowed_in f role rel) nothing
    by true true e h more =
        ap (λ t. if_some (cond t (Some (held_in f role x)) (find (λ y. bytes_eq y.rel rel) rest)) nothing (λ y. y.allowed)) e
        ∙ ap (allowed_in f role) ((bytes_eq-Decides x rel).0 e)
    by true false e h more =
        more ∙ either_way others (allowed_in f role rel) (none_allowed f role rel (sym (ap (has_some f role) ((bytes_eq-Decides x rel).0 e)) ∙ h))
    by false true e h more = ap (λ t. if_some (cond t (Some (held_in f role x)) (find (λ y. bytes_eq y.rel rel) rest)) nothing (λ y. y.allowed)) e ∙ more
    by false false e h more = more

-- what it might do is told by what was asked
was_allowed : (f : Frame) (r : Readable) (rel : Name) → IsReadable f r → allowed_before r.rels rel ≡ allowed_in f r.role rel
was_allowed f r rel h =
    ap (λ hs. allowed_before hs rel) h ∙ (found f r.role rel (map (λ e. e.name) f.catalog) ∙ by (list_any (λ x. bytes_eq x rel) (map (λ e. e.name) f.catalog)) (has_some f r.role rel) refl refl)
  where
    by : (b k : Bool) → list_any (λ x. bytes_eq x rel) (map (λ e. e.name) f.catalog) ≡ b → has_some f r.role rel ≡ k
        → cond b (allowed_in f r.role rel) nothing ≡ allowed_in f r.role rel
    by true k e h = refl
    by false true e h = absurd (false≢true (sym e ∙ some_there f r.role rel h))
    by false false e h = sym (none_allowed f r.role rel h)

twice_kept : (p q s : Name → Bool) (xs : List Name) → ((x : Name) → q x ≡ s x) → ((x : Name) → p x ≡ false → s x ≡ false) → filter q (filter p xs) ≡ filter s xs
twice_kept p q s [] same none = refl
twice_kept p q s (x ∷ xs) same none = by (p x) refl (twice_kept p q s xs same none)
  where
    by : (b : Bool) → p x ≡ b → filter q (filter p xs) ≡ filter s xs → filter q (cond b (x ∷ filter p xs) (filter p xs)) ≡ cond (s x) (x ∷ filter s xs) (filter s xs)
    by true e more = λ i. cond (same x i) (x ∷ more i) (more i)
    by false e more = more ∙ ap (λ b. cond b (x ∷ filter s xs) (filter s xs)) (sym (none x e))

newly_is : (f g : Frame) (r : Readable) → IsReadable f r → only_new g r (relations_with g r.role) ≡ newly f g r.role
newly_is f g r h =
    twice_kept (has_some g r.role) (is_new g r) (gains f g r.role) (map (λ e. e.name) g.catalog)
    (λ rel. ap (λ a. is_more a (allowed_in g r.role rel)) (was_allowed f r rel h))
    (λ rel k. ap (is_more (allowed_in f r.role rel)) (none_allowed g r.role rel k))

text_is : (f g : Frame) (rs : List Readable) (role : Name) → AllByRecursion (IsReadable f) rs → is_among rs role ≡ true
    → text_for (map (newly_in g) rs) role ≡ text_granted (newly f g role)
text_is f g [] role w h = absurd (false≢true h)
text_is f g (r ∷ rs) role w h = by (λ k. text_is f g rs role w.1 k) (bytes_eq r.role role) refl h
  where
    by : (is_among rs role ≡ true → text_for (map (newly_in g) rs) role ≡ text_granted (newly f g role)) → (b : Bool) → bytes_eq r.role role ≡ b → (b || is_among rs role) ≡ true
        → if_some (cond b (Some (newly_in g r)) (find (λ n. bytes_eq n.role role) (map (newly_in g) rs))) [] (λ n. n.text) ≡ text_granted (newly f g role)
    by later true e h = ap text_granted (newly_is f g r w.0 ∙ ap (newly f g) ((bytes_eq-Decides r.role role).0 e))
    by later false e h = later h

none_new : (p : Name → Bool) (xs : List Name) → ((x : Name) → p x ≡ false) → filter p xs ≡ []
none_new p [] h = refl
none_new p (x ∷ xs) h = (λ i. cond (h x i) (x ∷ filter p xs) (filter p xs)) ∙ none_new p xs h

neither : (b : Bool) → (b && not b) ≡ false
neither true = refl
neither false = refl

not_more : (a : Allowed) → is_more a a ≡ false
not_more a = λ i. neither a.select i || (neither a.insert i || (neither a.update i || (neither a.delete i || false)))

-- ---- rows that are written give nobody a privilege

pub record HasSameRights (s t : State) : Type 0 where
  pub rights : t.frame.rights ≡ s.frame.rights
  pub catalog : t.frame.catalog ≡ s.frame.catalog

same_then : (s t u : State) → HasSameRights s t → HasSameRights t u → HasSameRights s u
same_then s t u a b = record { rights = b.rights ∙ a.rights; catalog = b.catalog ∙ a.catalog }

step_keeps : (s : State) (act : Act) → after_rights s.frame act ≡ s.frame.rights → after_catalog s.frame act ≡ s.frame.catalog
    → HasSameRights s (step s (record { session = 1; act = act })).state
step_keeps s act r k = by (refusal s 1 act)
  where
    by : (o : Option Refusal) → HasSameRights s (outcome s (record { session = 1; act = act }) o).state
    by None = record { rights = r; catalog = k }
    by (Some why) = record { rights = refl; catalog = refl }

passed_keeps : (s t : State) (act : Act) → after_rights s.frame act ≡ s.frame.rights → after_catalog s.frame act ≡ s.frame.catalog → passed act s ≡ Some t → HasSameRights s t
passed_keeps s t act r k h = by (is_some (refusal s 1 act)) h
  where
    by : (b : Bool) → cond b None (Some (step s (record { session = 1; act = act })).state) ≡ Some t → HasSameRights s t
    by true h = cc
    by false h = subst (HasSameRights s) (same-Some (step s (record { session = 1; act = act })).state t h) (step_keeps s act r k)

write_keeps : (f : Frame) (act : Act) → is_write act ≡ true → (after_rights f act ≡ f.rights) × (after_catalog f act ≡ f.catalog)
write_keeps f (write entries) h = (refl, refl)
write_keeps f _ h = absurd (false≢true h)

carried_keeps : (q : Request) (s t : State) → is_write q.act ≡ true → carried (fact_of q) s ≡ Some t → HasSameRights s t
carried_keeps q s t w h = by (is_shared q.act) h
  where
    by : (b : Bool) → cond b (option_and_then (passed finish) (option_and_then (passed q.act) (passed (begin q.role) s))) None ≡ Some t → HasSameRights s t
    by false h = cc
    by true h = option_and_then_some (passed finish) (option_and_then (passed q.act) (passed (begin q.role) s)) t h
        (λ v e last. option_and_then_some (passed q.act) (passed (begin q.role) s) v e
        (λ u b done.
        let k = write_keeps u.frame q.act w in
        same_then s u t (passed_keeps s u (begin q.role) refl refl b)
        (same_then u v t (passed_keeps u v q.act k.0 k.1 done) (passed_keeps v t finish refl refl last))))

all_keep : (qs : List Request) (s t : State) → list_all (λ q. is_write q.act) qs ≡ true → all_carried (map fact_of qs) s ≡ Some t → HasSameRights s t
all_keep [] s t w h = subst (HasSameRights s) (same-Some s t h) (record { rights = refl; catalog = refl })
all_keep (q ∷ qs) s t w h = by (λ u all rest. all_keep qs u t all rest) (is_write q.act) refl w
  where
    by : ((u : State) → list_all (λ x. is_write x.act) qs ≡ true → all_carried (map fact_of qs) u ≡ Some t → HasSameRights u t)
        → (b : Bool) → is_write q.act ≡ b → (b && list_all (λ x. is_write x.act) qs) ≡ true → HasSameRights s t
    by later false e w = absurd (false≢true w)
    by later true e w = option_and_then_some (all_carried (map fact_of qs)) (carried (fact_of q) s) t h
        (λ u c rest. same_then s u t (carried_keeps q s u e c) (later u w rest))

-- a step of writes alone
writes_keep : (qs : List Request) (s : State) (o : Outcome) → list_all (λ q. is_write q.act) qs ≡ true → stepped (map fact_of qs) s ≡ Some o → HasSameRights s o.state
writes_keep qs s o w h = by (all_carried (map fact_of qs) (shared s)) refl h
  where
    by : (c : Option State) → all_carried (map fact_of qs) (shared s) ≡ c → option_map (λ t. looked_at s (among s t)) c ≡ Some o → HasSameRights s o.state
    by None e h = cc
    by (Some t) e h =
        let k = all_keep qs (shared s) t w e in
        subst (λ (x : Outcome). HasSameRights s x.state) (same-Some (looked_at s (among s t)) o h) (record { rights = k.rights; catalog = k.catalog })

same_allowed : (f g : Frame) (role rel : Name) → g.rights ≡ f.rights → g.catalog ≡ f.catalog → allowed_in g role rel ≡ allowed_in f role rel
same_allowed f g role rel r k = λ i. record { select = now Select i; insert = now Insert i; update = now Update i; delete = now Delete i }
  where
    now : (p : Privilege) → has_on g role p rel ≡ has_on f role p rel
    now p = λ i. if_some (role_of (r i) role) false (λ n. if_some (named (k i) rel) false (λ e. has (r i) n p e.rel))

-- ---- each client's role is told on which relations it may do more

pub are_newly : (f : Frame) (qs : List Request) (s : State) (o : Outcome) (rs : List Readable) (places : Places) → s.frame ≡ f
    → AreBefore f (list_all (λ q. is_write q.act) qs) rs places → stepped (map fact_of qs) s ≡ Some o → AreNewly f o.state.frame rs places
are_newly f qs s o rs places e w h = by (list_all (λ q. is_write q.act) qs) refl w
  where
    by : (b : Bool) → list_all (λ q. is_write q.act) qs ≡ b → AreBefore f b rs places → AreNewly f o.state.frame rs places
    by true a n = λ m k t.
        let same = writes_keep qs s o a h in
        ap (λ z. text_for (map (newly_in o.state.frame) z) k.role) n
        ∙ ap text_granted (sym (none_new (gains f o.state.frame k.role) (map (λ d. d.name) o.state.frame.catalog)
        (λ rel. ap (is_more (allowed_in f k.role rel)) (same_allowed f o.state.frame k.role rel (same.rights ∙ ap (λ (z : Frame). z.rights) e) (same.catalog ∙ ap (λ (z : Frame). z.catalog) e))
        ∙ not_more (allowed_in f k.role rel))))
    by false a w = λ m k t. text_is f o.state.frame rs k.role w.each (w.all m k t)

told_as : ((t : Told) → IsLine (told_text t)) → (ns : List Newly) (k : Kept) (names : List Name) → text_for ns k.role ≡ text_granted names
    → hearing_newly ns k ≡ holding_all (map granted names) k
told_as law ns k names e = ap (λ z. cond (length z == 0) k (holding z k)) e ∙ by names
  where
    by : (names : List Name) → cond (length (text_granted names) == 0) k (holding (text_granted names) k) ≡ holding_all (map granted names) k
    by [] = refl
    by (n ∷ ns) = ap (λ b. cond b k (holding (text_granted (n ∷ ns)) k)) (length-told_text (granted n) (text_granted ns) (law (granted n)))
        ∙ sym (holding_all-holding (map granted ns) (told_text (granted n)) k)

same_there : (f h : Kept → Kept) (places : Places) → ((m : ℕ) (k : Kept) → client_at places m ≡ Some k → f k ≡ h k) → at_all f places ≡ at_all h places
same_there f h [] w = refl
same_there f h (o ∷ os) w = λ i. slot o (w 0) i ∷ same_there f h os (λ m k e. w (suc m) k e) i
  where
    slot : (o : Option Kept) → ((k : Kept) → o ≡ Some k → f k ≡ h k) → option_map f o ≡ option_map h o
    slot None w = refl
    slot (Some k) w = ap Some (w k refl)

pub stands_newly : ((t : Told) → IsLine (told_text t)) → (f g : Frame) (rs : List Readable) (feeds : List Feed) (ls : List Line) (places : Places) → AreNewly f g rs places
    → at_all (hearing_newly (map (newly_in g) rs)) (at_all (hearing_lines feeds ls) places)
    ≡ at_all (λ k. holding_all (map granted (newly f g k.role)) k) (at_all (hearing_lines feeds ls) places)
stands_newly law f g rs feeds ls places w =
    both_all (hearing_newly (map (newly_in g) rs)) (hearing_lines feeds ls) places
    ∙ (same_there (λ k. hearing_newly (map (newly_in g) rs) (hearing_lines feeds ls k))
    (λ k. holding_all (map granted (newly f g (hearing_lines feeds ls k).role)) (hearing_lines feeds ls k)) places one
    ∙ sym (both_all (λ k. holding_all (map granted (newly f g k.role)) k) (hearing_lines feeds ls) places))
  where
    one : (m : ℕ) (k : Kept) → client_at places m ≡ Some k → hearing_newly (map (newly_in g) rs) (hearing_lines feeds ls k)
        ≡ holding_all (map granted (newly f g (hearing_lines feeds ls k).role)) (hearing_lines feeds ls k)
    one m k e =
        let role = role_held (own_lines feeds ls k.subs) k in
        told_as law (map (newly_in g) rs) (hearing_lines feeds ls k) (newly f g (hearing_lines feeds ls k).role)
        (ap (text_for (map (newly_in g) rs)) role ∙ (w m k e ∙ ap (λ r. text_granted (newly f g r)) (sym role)))
