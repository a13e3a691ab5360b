-- One step after the other: what after_symbol-First first, and what a sequence of readers gives.
use Rattle.std.proofs.Common.{◌≡◌, ℕ, Bool, true, false, cond, List, [], ◌∷◌, Option, Some, None, Ok, Err, refl, sym, subst, ◌<◌, length, arith}
use denote.Enum.Bare.{sameb, same_true, true_same}
use Rattle.iv_query.specs.contracts.token.Symbol.{the_type}
use Rattle.iv_query.specs.declared.fault.Fault.{Fault}
use Rattle.iv_query.specs.declared.token.Symbol.{Symbol}
use Rattle.iv_query.specs.declared.tree.Op.{Op}
use Rattle.iv_query.specs.declared.fault.Why.TheVariants as why
use Rattle.iv_query.specs.Tokens.{Tok, Fixed, Name, Number, Quoted, after_symbol, after_op, op_of, first_place, unexpected}
use Rattle.iv_rows.specs.Options.{if_some}
use Rattle.iv_query.specs.Rules.{First, first}
use Rattle.iv_query.specs.Reading.{◌>>=◌, Read, need}
use Rattle.iv_query.specs.QueryReading.{skip}

-- a symbol after_symbol-First first, or it does not
pub data Front (s : Symbol) : List Tok → Option (List Tok) → Type 0 where
  there : {p : ℕ} {us : List Tok} → Front s (Fixed s p ∷ us) (Some us)
  absent : {ts : List Tok} → after_symbol s ts ≡ None → Front s ts None

front_at : (s t : Symbol) (p : ℕ) (us : List Tok) (b : Bool) → sameb the_type t s ≡ b → after_symbol s (Fixed t p ∷ us) ≡ cond b (Some us) None → Front s (Fixed t p ∷ us) (cond b (Some us) None)
front_at s t p us true e f = let same : t ≡ s = same_true the_type tt t s e in subst (λ (x : Symbol). Front s (Fixed x p ∷ us) (Some us)) (sym same) there
front_at s t p us false e f = absent f

pub Front-after_symbol : (s : Symbol) (ts : List Tok) → Front s ts (after_symbol s ts)
unfolding after_symbol
Front-after_symbol s [] = absent refl
Front-after_symbol s (Fixed t p ∷ us) = front_at s t p us (sameb the_type t s) refl refl
Front-after_symbol s (Name n p ∷ us) = absent refl
Front-after_symbol s (Number n p ∷ us) = absent refl
Front-after_symbol s (Quoted v p ∷ us) = absent refl

-- a comparison sign after_symbol-First first, or it does not
pub data FrontOp : List Tok → Option (Op × List Tok) → Type 0 where
  op_there : {s : Symbol} {o : Op} {p : ℕ} {us : List Tok} → op_of s ≡ Some o → FrontOp (Fixed s p ∷ us) (Some (o, us))
  op_absent : {ts : List Tok} → after_op ts ≡ None → FrontOp ts None

front_op_at : (s : Symbol) (p : ℕ) (us : List Tok) (r : Option Op) → op_of s ≡ r → after_op (Fixed s p ∷ us) ≡ if_some r None (λ o. Some (o, us)) → FrontOp (Fixed s p ∷ us) (if_some r None (λ o. Some (o, us)))
front_op_at s p us None e f = op_absent f
front_op_at s p us (Some o) e f = op_there e

pub FrontOp-after_op : (ts : List Tok) → FrontOp ts (after_op ts)
FrontOp-after_op [] = op_absent refl
FrontOp-after_op (Fixed s p ∷ us) = front_op_at s p us (op_of s) refl refl
FrontOp-after_op (Name n p ∷ us) = op_absent refl
FrontOp-after_op (Number n p ∷ us) = op_absent refl
FrontOp-after_op (Quoted v p ∷ us) = op_absent refl

-- what a reader gives is good, or a fault of this kind
pub data Outcome {A : Type 0} (Good : A → List Tok → Type 0) (Bad : Fault → Type 0) : Read A → Type 0 where
  good : {x : A × List Tok} → Good x.0 x.1 → Outcome Good Bad (Ok x)
  bad : {f : Fault} → Bad f → Outcome Good Bad (Err f)

pub Outcome-bind : {A B : Type 0} {G : A → List Tok → Type 0} {F : Fault → Type 0} {G' : B → List Tok → Type 0} {F' : Fault → Type 0} (r : Read A) (k : A × List Tok → Read B)
    → Outcome G F r → ((x : A × List Tok) → G x.0 x.1 → Outcome G' F' (k x)) → ((f : Fault) → F f → F' f) → Outcome G' F' (r >>= k)
Outcome-bind (Ok x) k (good h) on fail = on x h
Outcome-bind (Err f) k (bad h) on fail = bad (fail f h)

-- ---- symbols

pub after_symbol-First : {s : Symbol} {p : ℕ} {ts us : List Tok} → First s p ts us → after_symbol s ts ≡ Some us
unfolding after_symbol
after_symbol-First {s = s} first = rw (true_same the_type s s refl) refl

pub need-First : {s : Symbol} {p : ℕ} {ts us : List Tok} (stop : Fault) → First s p ts us → need s stop ts ≡ Ok us
unfolding need
need-First stop h = rw (after_symbol-First h) refl

pub need-None : (s : Symbol) (ts : List Tok) (stop : Fault) → after_symbol s ts ≡ None → need s stop ts ≡ Err (unexpected stop ts)
unfolding need
need-None s ts stop e = rw e refl

pub first_place-First : {s : Symbol} {p : ℕ} {ts us : List Tok} (stop : Fault) → First s p ts us → first_place stop ts ≡ p
first_place-First stop first = refl

pub skips : {s : Symbol} {p : ℕ} {ts us : List Tok} → First s p ts us → skip s ts ≡ us
skips h = rw (after_symbol-First h) refl

pub skips_not : (s : Symbol) (ts : List Tok) → after_symbol s ts ≡ None → skip s ts ≡ ts
skips_not s ts e = rw e refl

pub lt-First : {s : Symbol} {p : ℕ} {ts us : List Tok} → First s p ts us → length us < length ts
lt-First first = omega arith

pub First-after_symbol : (s : Symbol) (ts us : List Tok) → after_symbol s ts ≡ Some us → First s (first_place (record { place = 0; why = why.Token }) ts) ts us
First-after_symbol s ts us e = go ts (after_symbol s ts) (Front-after_symbol s ts) e
  where
    go : (ts : List Tok) (r : Option (List Tok)) → Front s ts r → r ≡ Some us → First s (first_place (record { place = 0; why = why.Token }) ts) ts us
    go _ (Some vs) (there {p = p}) f = let same : vs ≡ us = cc in subst (First s p (Fixed s p ∷ vs)) same first
    go ts None (absent g) f = absurd cc

-- a symbol that has to come
pub Outcome-need : {B : Type 0} {G : B → List Tok → Type 0} {F : Fault → Type 0} (s : Symbol) (stop : Fault) (ts : List Tok) (k : List Tok → Read B)
    → (after_symbol s ts ≡ None → F (unexpected stop ts)) → ((us : List Tok) → First s (first_place stop ts) ts us → Outcome G F (k us)) → Outcome G F (need s stop ts >>= k)
unfolding need
Outcome-need {G = G} {F = F} s stop ts k missing on = go ts (after_symbol s ts) (Front-after_symbol s ts) missing on
  where
    go : (ts : List Tok) (r : Option (List Tok)) → Front s ts r → (after_symbol s ts ≡ None → F (unexpected stop ts)) → ((us : List Tok) → First s (first_place stop ts) ts us → Outcome G F (k us)) → Outcome G F (◌>>=◌ {A = List Tok} (if_some r (Err (unexpected stop ts)) Ok) k)
    go ts None (absent e) missing on = bad (missing e)
    go _ (Some us) there missing on = on us first

-- a symbol that may come
pub Outcome-if_some : {B : Type 0} {G : B → List Tok → Type 0} {F : Fault → Type 0} (s : Symbol) (stop : Fault) (ts : List Tok) (d : Read B) (k : List Tok → Read B)
    → (after_symbol s ts ≡ None → Outcome G F d) → ((us : List Tok) → First s (first_place stop ts) ts us → Outcome G F (k us)) → Outcome G F (if_some (after_symbol s ts) d k)
Outcome-if_some {G = G} {F = F} s stop ts d k missing on = go ts (after_symbol s ts) (Front-after_symbol s ts) missing on
  where
    go : (ts : List Tok) (r : Option (List Tok)) → Front s ts r → (after_symbol s ts ≡ None → Outcome G F d) → ((us : List Tok) → First s (first_place stop ts) ts us → Outcome G F (k us)) → Outcome G F (if_some r d k)
    go ts None (absent e) missing on = missing e
    go _ (Some us) there missing on = on us first

pub Outcome-skip : {B : Type 0} {G : B → List Tok → Type 0} {F : Fault → Type 0} (s : Symbol) (stop : Fault) (ts : List Tok) (k : List Tok → Read B)
    → (after_symbol s ts ≡ None → Outcome G F (k ts)) → ((us : List Tok) → First s (first_place stop ts) ts us → Outcome G F (k us)) → Outcome G F (k (skip s ts))
Outcome-skip {G = G} {F = F} s stop ts k missing on = go ts (after_symbol s ts) (Front-after_symbol s ts) missing on
  where
    go : (ts : List Tok) (r : Option (List Tok)) → Front s ts r → (after_symbol s ts ≡ None → Outcome G F (k ts)) → ((us : List Tok) → First s (first_place stop ts) ts us → Outcome G F (k us)) → Outcome G F (k (if_some r ts (λ us. us)))
    go ts None (absent e) missing on = missing e
    go _ (Some us) there missing on = on us first

-- a test
pub Outcome-cond : {B : Type 0} {G : B → List Tok → Type 0} {F : Fault → Type 0} (b : Bool) (x y : Read B) → (b ≡ true → Outcome G F x) → (b ≡ false → Outcome G F y) → Outcome G F (cond b x y)
Outcome-cond true x y h k = h refl
Outcome-cond false x y h k = k refl

pub Outcome-weaken : {B : Type 0} {G G' : B → List Tok → Type 0} {F F' : Fault → Type 0} (r : Read B) → Outcome G F r → ((b : B) (us : List Tok) → G b us → G' b us) → ((f : Fault) → F f → F' f) → Outcome G' F' r
Outcome-weaken (Ok x) (good h) on fail = good (on x.0 x.1 h)
Outcome-weaken (Err f) (bad h) on fail = bad (fail f h)
