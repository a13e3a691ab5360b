-- Privileges that a role has in one frame and had not in another: on which relations, and that these are told.
use Rattle.std.proofs.Common.{◌≡◌, ◌∙◌, ℕ, Bool, true, false, cond, not, ◌||◌, List, [], ◌∷◌, map, Option, None, Some, refl, ap, sym, subst}
use Rattle.std.specs.Prelude.{◌&&◌, Contains, bytes_eq, filter}
use Rattle.std.specs.List.{AllByRecursion, list_any}
use Rattle.std.proofs.lemmas.Bool.{false≢true}
use Rattle.std.proofs.lemmas.List.Elements.{Contains-append_left, Contains-append_right, Contains-push}
use Rattle.std.proofs.lemmas.Slice.Eq.{bytes_eq-Decides}
use Rattle.iv_rows.specs.Options.{if_some}
use Rattle.iv_bind.specs.Catalogs.{CatalogEntry, named}
use Rattle.iv_access.specs.Privileges.{has, role_of}
use Rattle.iv_access.specs.Rights.{Name}
use Rattle.iv_access.specs.declared.privilege.Privilege.{Privilege}
use Rattle.iv_access.specs.declared.privilege.Privilege.TheVariants.{Select, Insert, Update, Delete}
use Rattle.iv_machine.specs.State.{Frame}
use Rattle.iv_message.specs.Told.{granted}
use Rattle.iv_gate.specs.Arriving.{gains}
use Rattle.iv_gate.specs.Gate.{each_privilege, has_on, has_some}
use Rattle.iv_gate.proofs.FollowedNumbers.{AllByRecursion-Contains}

-- ---- lists

Contains-first : {X : Type 0} (x : X) (xs : List X) → Contains (x ∷ xs) x
Contains-first x xs = Contains-append_left (x ∷ []) xs x (Contains-push [] x)

Contains-later : {X : Type 0} (y : X) (xs : List X) (x : X) → Contains xs x → Contains (y ∷ xs) x
Contains-later y xs x h = Contains-append_right (y ∷ []) xs x h

each_there : {X : Type 0} (p : X → Bool) (xs whole : List X) → ((x : X) → Contains xs x → Contains whole x) → AllByRecursion (Contains whole) (filter p xs)
each_there p [] whole f = tt
each_there p (x ∷ xs) whole f = by (p x) (each_there p xs whole (λ y h. f y (Contains-later x xs y h)))
  where
    by : (b : Bool) → AllByRecursion (Contains whole) (filter p xs) → AllByRecursion (Contains whole) (cond b (x ∷ filter p xs) (filter p xs))
    by true more = (f x (Contains-first x xs), more)
    by false more = more

-- what is left was there
pub Contains-filtered : {X : Type 0} (p : X → Bool) (xs : List X) (x : X) → Contains (filter p xs) x → Contains xs x
Contains-filtered p xs x h = AllByRecursion-Contains (Contains xs) (filter p xs) x (each_there p xs xs (λ y k. k)) h

any_more : {A : Type 0} (p q : A → Bool) (xs : List A) → list_any (λ x. p x && not (q x)) xs ≡ true → list_any p xs ≡ true
any_more p q [] h = h
any_more p q (x ∷ xs) h = by (p x) (not (q x)) (any_more p q xs) h
  where
    by : (a b : Bool) → (list_any (λ y. p y && not (q y)) xs ≡ true → list_any p xs ≡ true) → ((a && b) || list_any (λ y. p y && not (q y)) xs) ≡ true → (a || list_any p xs) ≡ true
    by true b m h = refl
    by false b m h = m h

either : (a b : Bool) → b ≡ true → (a || b) ≡ true
either true b h = refl
either false b h = h

-- ---- privileges

-- a relation on which a role has a privilege has a name
pub on_named : (f : Frame) (role : Name) (p : Privilege) (rel : Name) → has_on f role p rel ≡ true → (e : CatalogEntry) × (named f.catalog rel ≡ Some e)
on_named f role p rel h = by (role_of f.rights role) (named f.catalog rel) refl h
  where
    by : (r : Option ℕ) (o : Option CatalogEntry) → named f.catalog rel ≡ o → if_some r false (λ r. if_some o false (λ e. has f.rights r p e.rel)) ≡ true
        → (e : CatalogEntry) × (named f.catalog rel ≡ Some e)
    by None o n h = absurd (false≢true h)
    by (Some r) None n h = absurd (false≢true h)
    by (Some r) (Some e) n h = (e, n)

-- a relation of a name is told where the name passes
pub named_passes : (p : Name → Bool) (es : List CatalogEntry) (rel : Name) (e : CatalogEntry) → named es rel ≡ Some e → p rel ≡ true
    → Contains (map granted (filter p (map (λ d. d.name) es))) (granted rel)
named_passes p [] rel e h k = cc
named_passes p (d ∷ es) rel e h k = by (bytes_eq rel d.name) refl h (λ n. named_passes p es rel e n k)
  where
    rest : List Name
    rest = filter p (map (λ (x : CatalogEntry). x.name) es)

    later : (b : Bool) → Contains (map granted rest) (granted rel) → Contains (map granted (cond b (d.name ∷ rest) rest)) (granted rel)
    later true h = Contains-later (granted d.name) (map granted rest) (granted rel) h
    later false h = h

    by : (b : Bool) → bytes_eq rel d.name ≡ b → cond b (Some d) (named es rel) ≡ Some e → (named es rel ≡ Some e → Contains (map granted rest) (granted rel))
        → Contains (map granted (cond (p d.name) (d.name ∷ rest) rest)) (granted rel)
    by true q n m =
        let same = (bytes_eq-Decides rel d.name).0 q in
        subst (λ b. Contains (map granted (cond b (d.name ∷ rest) rest)) (granted rel)) (sym (ap p (sym same) ∙ k))
        (subst (λ x. Contains (granted x ∷ map granted rest) (granted rel)) same (Contains-first (granted rel) (map granted rest)))
    by false q n m = later (p d.name) (m n)

neither : (b : Bool) → (b && not b) ≡ false
neither true = refl
neither false = refl

-- where nothing changes none is new
pub none_gained : (f : Frame) (role rel : Name) → gains f f role rel ≡ false
none_gained f role rel =
    λ i. neither (has_on f role Select rel) i || (neither (has_on f role Insert rel) i || (neither (has_on f role Update rel) i || (neither (has_on f role Delete rel) i || false)))

-- who has a new one has some
pub has_some-gains : (before after : Frame) (role rel : Name) → gains before after role rel ≡ true → has_some after role rel ≡ true
has_some-gains before after role rel h = by (role_of after.rights role) (named after.catalog rel) (λ p. has_on before role p rel) h
  where
    by : (r : Option ℕ) (o : Option CatalogEntry) (had : Privilege → Bool)
        → list_any (λ p. if_some r false (λ r. if_some o false (λ e. has after.rights r p e.rel)) && not (had p)) each_privilege ≡ true
        → if_some r false (λ r. if_some o false (λ e. list_any (λ p. has after.rights r p e.rel) each_privilege)) ≡ true
    by None o had h = absurd (false≢true h)
    by (Some r) None had h = absurd (false≢true h)
    by (Some r) (Some e) had h = any_more (λ p. has after.rights r p e.rel) had each_privilege h

-- whichever it is
pub gains-has_on : (before after : Frame) (role : Name) (p : Privilege) (rel : Name) → has_on before role p rel ≡ false → has_on after role p rel ≡ true
    → gains before after role rel ≡ true
gains-has_on before after role p rel h k = by p (λ i. k i && not (h i))
  where
    new : Privilege → Bool
    new q = has_on after role q rel && not (has_on before role q rel)

    by : (q : Privilege) → new q ≡ true → gains before after role rel ≡ true
    by Select e = ap (λ b. b || list_any new (Insert ∷ Update ∷ Delete ∷ [])) e
    by Insert e = either (new Select) _ (ap (λ b. b || list_any new (Update ∷ Delete ∷ [])) e)
    by Update e = either (new Select) _ (either (new Insert) _ (ap (λ b. b || list_any new (Delete ∷ [])) e))
    by Delete e = either (new Select) _ (either (new Insert) _ (either (new Update) _ (ap (λ b. b || list_any new []) e)))
