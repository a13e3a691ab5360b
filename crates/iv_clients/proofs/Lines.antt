-- Lines of a file, by where they are cut.
use Rattle.std.proofs.Common.{◌≡◌, ℕ, Bool, true, false, cond, List, [], ◌∷◌, Option, Some, None, option_map, refl, ap, ◌∙◌, sym, append-nil}
use Rattle.std.specs.Prelude.{◌==◌}
use Rattle.iv_clients.specs.Parsed.{behind_tokens}
use Rattle.iv_records.specs.Cuts.{cut_at}
use Rattle.iv_clients.specs.Tokens.{Token, begun, lines_of, tokens_of}

is_none_some : {X : Type 0} (x : X) → None ≡ Some x → ⊥
is_none_some x h = cc h

same_pair : (a b : List ℕ × List ℕ) → Some a ≡ Some b → a ≡ b
same_pair a b h = cc

-- the first line, and those behind it
pub lines_of-cut_at : (xs : List ℕ) (p : List ℕ × List ℕ) → cut_at 10 xs ≡ Some p → lines_of xs ≡ p.0 ∷ lines_of p.1
lines_of-cut_at [] p h = absurd (is_none_some p h)
lines_of-cut_at (x ∷ xs) p h = by (x == 10) (cut_at 10 xs) refl h (λ q e. lines_of-cut_at xs q e)
  where
    by : (d : Bool) (o : Option (List ℕ × List ℕ)) → cut_at 10 xs ≡ o → cond d (Some ([], xs)) (option_map {U = List ℕ × List ℕ} (λ q. (x ∷ q.0, q.1)) o) ≡ Some p
        → ((q : List ℕ × List ℕ) → cut_at 10 xs ≡ Some q → lines_of xs ≡ q.0 ∷ lines_of q.1) → cond d ([] ∷ lines_of xs) (begun x (lines_of xs)) ≡ p.0 ∷ lines_of p.1
    by true o e k more = ap (λ (z : List ℕ × List ℕ). z.0 ∷ lines_of z.1) (same_pair ([], xs) p k)
    by false None e k more = absurd (is_none_some p k)
    by false (Some q) e k more = ap (begun x) (more q e) ∙ ap (λ (z : List ℕ × List ℕ). z.0 ∷ lines_of z.1) (same_pair (x ∷ q.0, q.1) p k)

some_is_none : {X : Type 0} (x : X) → Some x ≡ None → ⊥
some_is_none x e = cc e

-- the last line
pub lines_of-not_cut : (xs : List ℕ) → cut_at 10 xs ≡ None → lines_of xs ≡ xs ∷ []
lines_of-not_cut [] h = refl
lines_of-not_cut (x ∷ xs) h = by (x == 10) (cut_at 10 xs) refl h (λ e. lines_of-not_cut xs e)
  where
    by : (d : Bool) (o : Option (List ℕ × List ℕ)) → cut_at 10 xs ≡ o → cond d (Some ([], xs)) (option_map {U = List ℕ × List ℕ} (λ q. (x ∷ q.0, q.1)) o) ≡ None
        → (cut_at 10 xs ≡ None → lines_of xs ≡ xs ∷ []) → cond d ([] ∷ lines_of xs) (begun x (lines_of xs)) ≡ (x ∷ xs) ∷ []
    by true o e k more = absurd (some_is_none ([], xs) k)
    by false None e k more = ap (begun x) (more e)
    by false (Some q) e k more = absurd (some_is_none (x ∷ q.0, q.1) k)

pub behind_none : (o : Option (List Token)) → behind_tokens [] o ≡ o
behind_none None = refl
behind_none (Some ts) = refl

-- ---- what the lines are read as

pub behind_tokens-last : (b : Bool) (old new : List Token) (line : List ℕ) → ((ls : List (List ℕ)) → behind_tokens old (tokens_of (line ∷ ls)) ≡ cond b (behind_tokens new (tokens_of ls)) None)
    → b ≡ true → Some new ≡ behind_tokens old (tokens_of (line ∷ []))
behind_tokens-last b old new line h e = sym (h [] ∙ (ap (λ z. cond z (behind_tokens new (Some [])) None) e ∙ ap Some (append-nil new)))

pub behind_tokens-last_wrong : (b : Bool) (old new : List Token) (line : List ℕ) → ((ls : List (List ℕ)) → behind_tokens old (tokens_of (line ∷ ls)) ≡ cond b (behind_tokens new (tokens_of ls)) None)
    → b ≡ false → None ≡ behind_tokens old (tokens_of (line ∷ []))
behind_tokens-last_wrong b old new line h e = sym (h [] ∙ ap (λ z. cond z (behind_tokens new (Some [])) None) e)

pub behind_tokens-end : (ts : List Token) (rest : List ℕ) (all : Option (List Token)) → None ≡ cut_at 10 rest → behind_tokens ts (tokens_of (lines_of rest)) ≡ all → behind_tokens ts (tokens_of (rest ∷ [])) ≡ all
behind_tokens-end ts rest all h e = ap (λ ls. behind_tokens ts (tokens_of ls)) (sym (lines_of-not_cut rest (sym h))) ∙ e

pub behind_tokens-next : (b : Bool) (old new : List Token) (rest line later : List ℕ) (all : Option (List Token)) → Some (line, later) ≡ cut_at 10 rest → ((ls : List (List ℕ)) → behind_tokens old (tokens_of (line ∷ ls)) ≡ cond b (behind_tokens new (tokens_of ls)) None)
    → b ≡ true → behind_tokens old (tokens_of (lines_of rest)) ≡ all → behind_tokens new (tokens_of (lines_of later)) ≡ all
behind_tokens-next b old new rest line later all h k e g = sym (k (lines_of later) ∙ ap (λ z. cond z (behind_tokens new (tokens_of (lines_of later))) None) e) ∙ (ap (λ ls. behind_tokens old (tokens_of ls)) (sym (lines_of-cut_at rest (line, later) (sym h))) ∙ g)

pub behind_tokens-wrong : (b : Bool) (old new : List Token) (rest line later : List ℕ) (all : Option (List Token)) → Some (line, later) ≡ cut_at 10 rest → ((ls : List (List ℕ)) → behind_tokens old (tokens_of (line ∷ ls)) ≡ cond b (behind_tokens new (tokens_of ls)) None)
    → b ≡ false → behind_tokens old (tokens_of (lines_of rest)) ≡ all → None ≡ all
behind_tokens-wrong b old new rest line later all h k e g = sym (k (lines_of later) ∙ ap (λ z. cond z (behind_tokens new (tokens_of (lines_of later))) None) e) ∙ (ap (λ ls. behind_tokens old (tokens_of ls)) (sym (lines_of-cut_at rest (line, later) (sym h))) ∙ g)
