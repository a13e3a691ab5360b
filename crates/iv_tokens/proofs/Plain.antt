-- A file of lines that say no more than tokens.
use Rattle.std.proofs.Common.{◌≡◌, ℕ, Bool, true, false, cond, List, [], ◌∷◌, map, Option, Some, None, option_map, refl, ap, ◌∙◌}
use Rattle.std.specs.Prelude.{◌==◌, ◌&&◌, length, nat_lt, option_and_then}
use Rattle.iv_clients.specs.Tokens.{Token, are_apart, begun, is_no_token, lines_of, token_in, tokens_of}
use Rattle.iv_tokens.specs.Entries.{PlainFilesStay, entries_in, entries_of, entry_in, only_one, or_entry, entry_of, parts_in, plain_entry, token_of, tokens_among}

-- ---- a line has no newline

abbrev pub AreWhole : List (List ℕ) → Type 0
AreWhole [] = Unit
AreWhole (l ∷ ls) = (lines_of l ≡ l ∷ []) × AreWhole ls

begun_whole : (b : ℕ) (ls : List (List ℕ)) → (b == 10) ≡ false → AreWhole ls → AreWhole (begun b ls)
begun_whole b [] h w = (ap (λ d. cond d ([] ∷ lines_of []) (begun b (lines_of []))) h, tt)
begun_whole b (l ∷ ls) h w = (ap (λ d. cond d ([] ∷ lines_of l) (begun b (lines_of l))) h ∙ ap (begun b) w.0, w.1)

are_whole : (file : List ℕ) → AreWhole (lines_of file)
are_whole [] = (refl, tt)
are_whole (b ∷ bytes) = by (b == 10) refl (are_whole bytes)
  where
    by : (d : Bool) → (b == 10) ≡ d → AreWhole (lines_of bytes) → AreWhole (cond d ([] ∷ lines_of bytes) (begun b (lines_of bytes)))
    by true h w = (refl, w)
    by false h w = begun_whole b (lines_of bytes) h w

-- ---- its entry is the token alone

none_is_some : {X : Type 0} (x : X) → None ≡ Some x → ⊥
none_is_some x h = cc h

same_some : {X : Type 0} (x y : X) → Some x ≡ Some y → x ≡ y
same_some x y h = cc

token_alone : (line : List ℕ) (t : Token) → lines_of line ≡ line ∷ [] → is_no_token line ≡ false → token_in line ≡ Some t → token_of line ≡ Some t
token_alone line t w n h =
    ap (λ ls. option_and_then only_one (option_and_then (λ ts. cond (are_apart ts && nat_lt 0 (length ts)) (Some ts) None) (tokens_of ls))) w
    ∙ (ap (λ d. option_and_then only_one (option_and_then (λ ts. cond (are_apart ts && nat_lt 0 (length ts)) (Some ts) None)
    (cond d (Some []) (option_and_then (λ u. option_map (λ ts. u ∷ ts) (Some [])) (token_in line))))) n
    ∙ ap (λ o. option_and_then only_one (option_and_then (λ ts. cond (are_apart ts && nat_lt 0 (length ts)) (Some ts) None)
    (option_and_then (λ u. option_map (λ ts. u ∷ ts) (Some [])) o))) h)

plain_alone : (line : List ℕ) (t : Token) → token_of line ≡ Some t → entry_in line ≡ Some (plain_entry t)
plain_alone line t h = ap (λ o. or_entry o (option_and_then entry_of (parts_in line))) h

-- ---- all lines

pub plain_lines : (ls : List (List ℕ)) (ts : List Token) → AreWhole ls → tokens_of ls ≡ Some ts → entries_of ls ≡ Some (map plain_entry ts)
plain_lines [] ts w h = ap (λ us. Some (map plain_entry us)) (same_some [] ts h)
plain_lines (l ∷ ls) ts w h = by (is_no_token l) (token_in l) (tokens_of ls) refl refl refl h (λ us e. plain_lines ls us w.1 e)
  where
    by : (d : Bool) (o : Option Token) (more : Option (List Token)) → is_no_token l ≡ d → token_in l ≡ o → tokens_of ls ≡ more
        → cond d more (option_and_then (λ t. option_map (λ us. t ∷ us) more) o) ≡ Some ts
        → ((us : List Token) → tokens_of ls ≡ Some us → entries_of ls ≡ Some (map plain_entry us))
        → cond d (entries_of ls) (option_and_then (λ e. option_map (λ es. e ∷ es) (entries_of ls)) (entry_in l)) ≡ Some (map plain_entry ts)
    by true o more n k m e again = again ts (m ∙ e)
    by false None more n k m e again = absurd (none_is_some ts e)
    by false (Some t) None n k m e again = absurd (none_is_some ts e)
    by false (Some t) (Some us) n k m e again =
        ap (λ x. option_and_then (λ y. option_map (λ es. y ∷ es) (entries_of ls)) x) (plain_alone l t (token_alone l t w.0 n k))
        ∙ (ap (λ x. option_map (λ es. plain_entry t ∷ es) x) (again us m) ∙ ap (λ z. Some (map plain_entry z)) (same_some (t ∷ us) ts e))

same_tokens : (ts : List Token) → tokens_among (map plain_entry ts) ≡ ts
same_tokens [] = refl
same_tokens (t ∷ ts) = ap (λ us. t ∷ us) (same_tokens ts)

apart_is : (ts us : List Token) → cond (are_apart us && nat_lt 0 (length us)) (Some us) None ≡ Some ts → (are_apart us ≡ true) × (us ≡ ts)
apart_is ts us h = by (are_apart us) (nat_lt 0 (length us)) refl h
  where
    by : (a b : Bool) → are_apart us ≡ a → cond (a && b) (Some us) None ≡ Some ts → (are_apart us ≡ true) × (us ≡ ts)
    by true true e k = (e, same_some us ts k)
    by true false e k = absurd (none_is_some ts k)
    by false b e k = absurd (none_is_some ts k)

pub plain_stays : PlainFilesStay
plain_stays file ts h = by (tokens_of (lines_of file)) refl h
  where
    by : (o : Option (List Token)) → tokens_of (lines_of file) ≡ o → option_and_then (λ us. cond (are_apart us && nat_lt 0 (length us)) (Some us) None) o ≡ Some ts
        → entries_in file ≡ Some (map plain_entry ts)
    by None e k = absurd (none_is_some ts k)
    by (Some us) e k =
        ap (λ o. option_and_then (λ es. cond (are_apart (tokens_among es)) (Some es) None) o) (plain_lines (lines_of file) us (are_whole file) e)
        ∙ (ap (λ b. cond b (Some (map plain_entry us)) None) (ap are_apart (same_tokens us) ∙ (apart_is ts us k).0) ∙ ap (λ z. Some (map plain_entry z)) (apart_is ts us k).1)
