-- The keys of an object that is read are those of its members, one by one.
use Rattle.std.proofs.Common.{◌≡◌, ◌∙◌, ℕ, List, [], ◌∷◌, ◌++◌, Bool, true, false, ◌&&◌, ◌||◌, Ordering, Less, Equal, Greater, nat_cmp, bytes_eq, refl, sym, ap}
use Rattle.std.proofs.lemmas.Map.Text.{is_eq-slice_cmp}
use Rattle.std.proofs.lemmas.Slice.Eq.{bytes_eq-Decides}
use Rattle.std.proofs.lemmas.List.Folds.{list_any-append, list_all-map}
use Rattle.std.specs.Borrow.{Bor}
use Rattle.std.specs.Cmp.Lexicographic.{slice_cmp}
use Rattle.std.specs.List.{list_all, list_any}
use Rattle.std.specs.Ordering.{match_ordering, is_eq}
use Rattle.std.specs.declared.alloc.Global.{Global}
use Rattle.json.specs.Value.{members_view}
use Rattle.json.specs.declared.value.Value.{Value}
use Rattle.serde_json.specs.Data.{Data, Members, no_members, member, put}
use Rattle.iv_request.specs.Documents.{value_data, members_of}
use Rattle.iv_request.specs.Forms.{has, is_among, keys_pass}
use Rattle.iv_request.specs.Names.{keys_seen}

abbrev pub compare : List ℕ → List ℕ → Ordering
compare = slice_cmp nat_cmp

pub same-compare_Equal : (k m : List ℕ) → compare k m ≡ Equal → k ≡ m
same-compare_Equal k m h = (bytes_eq-Decides k m).0 (sym (is_eq-slice_cmp k m) ∙ ap is_eq h)

abbrev pub Member : Type 0
Member = Bor (List ℕ) × Value Global

pub left_true : (a b : Bool) → (a && b) ≡ true → a ≡ true
left_true true b h = refl
left_true false b h = h

pub right_true : (a b : Bool) → (a && b) ≡ true → b ≡ true
right_true true b h = h
right_true false b h = cc

pub both_true : (a b : Bool) → a ≡ true → b ≡ true → (a && b) ≡ true
both_true a b p q = rw (p, q) refl

swapped : (a b c : Bool) → (a && (b && c)) ≡ (b && (a && c))
swapped true b c = refl
swapped false true c = refl
swapped false false c = refl

twice : (a c : Bool) → (a && c) ≡ (a && (a && c))
twice true c = refl
twice false c = refl

-- a member that comes or takes the place of one
pub keys_pass-put : (test : List ℕ → Bool) (k : List ℕ) (d : Data) (ms : Members) → keys_pass test (put k d ms) ≡ (test k && keys_pass test ms)
keys_pass-put test k d no_members = refl
keys_pass-put test k d (member m e ms) = part (compare k m) refl (keys_pass-put test k d ms)
  where
    part : (o : Ordering) → compare k m ≡ o → keys_pass test (put k d ms) ≡ (test k && keys_pass test ms)
        → keys_pass test (match_ordering o (member k d (member m e ms)) (member m d ms) (member m e (put k d ms))) ≡ (test k && (test m && keys_pass test ms))
    part Less h rest = refl
    part Equal h rest = twice (test m) (keys_pass test ms) ∙ ap (λ x. test x && (test m && keys_pass test ms)) (sym (same-compare_Equal k m h))
    part Greater h rest = ap (λ b. test m && b) rest ∙ swapped (test m) (test k) (keys_pass test ms)

joined : (a b c : Bool) → (b && (a && c)) ≡ ((a && b) && c)
joined true b c = refl
joined false true c = refl
joined false false c = refl

members_pass : (test : List ℕ → Bool) (ms : List Member) (found : Members) → keys_pass test (members_of (members_view ms) found) ≡ (list_all (λ m. test m.0.now) ms && keys_pass test found)
members_pass test [] found = refl
members_pass test (m ∷ ms) found =
    members_pass test ms (put m.0.now (value_data m.1) found)
    ∙ ap (λ b. list_all (λ n. test n.0.now) ms && b) (keys_pass-put test m.0.now (value_data m.1) found)
    ∙ joined (test m.0.now) (list_all (λ n. test n.0.now) ms) (keys_pass test found)

none_follows : (b : Bool) → (b && true) ≡ b
none_follows true = refl
none_follows false = refl

-- each key of the members passes
pub list_all-keys_pass : (test : List ℕ → Bool) (ms : List Member) → list_all (λ m. test m.0.now) ms ≡ keys_pass test (members_of (members_view ms) no_members)
list_all-keys_pass test ms = sym (members_pass test ms no_members ∙ none_follows (list_all (λ m. test m.0.now) ms))

abbrev Keys : Type 0
Keys = List (Bor (List ℕ))

in_one : (ks : Keys) (key : List ℕ) → is_among (keys_seen ks) key ≡ list_any (λ k. bytes_eq k.now key) ks
in_one [] key = refl
in_one (k ∷ ks) key = ap (λ b. bytes_eq k.now key || b) (in_one ks key)

-- a key that is in one of three lists
pub in_three : (a b c : Keys) (key : List ℕ) → is_among (keys_seen a ++ (keys_seen b ++ keys_seen c)) key
    ≡ (list_any (λ k. bytes_eq k.now key) a || (list_any (λ k. bytes_eq k.now key) b || list_any (λ k. bytes_eq k.now key) c))
in_three a b c key =
    list_any-append (λ k. bytes_eq k key) (keys_seen a) (keys_seen b ++ keys_seen c)
    ∙ (λ i. in_one a key i || list_any-append (λ k. bytes_eq k key) (keys_seen b) (keys_seen c) i)
    ∙ (λ i. list_any (λ k. bytes_eq k.now key) a || (in_one b key i || in_one c key i))

-- each of the keys is there
pub all_there : (ks : Keys) (d : Data) → list_all (λ key. has key d) (keys_seen ks) ≡ list_all (λ key. has key.now d) ks
all_there ks d = list_all-map (λ key. has key d) (λ (key : Bor (List ℕ)). key.now) ks
