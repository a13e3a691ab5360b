-- Predicates: the function that reads and the grammar say the same.
use Rattle.std.proofs.Common.{◌≡◌, ℕ, zero, suc, ◌≤◌, false, List, [], ◌∷◌, length, Option, Some, None, Ok, Err, refl, ◌∙◌, arith}
use Rattle.iv_rows.specs.Cell.{num, text, flag}
use Rattle.iv_query.specs.declared.fault.Fault.{Fault}
use Rattle.iv_query.specs.declared.token.Symbol.TheVariants as symbol
use Rattle.iv_query.specs.declared.tree.Op.{Op}
use Rattle.iv_query.specs.declared.tree.Dialect.{Dialect}
use Rattle.iv_query.specs.Tokens.{Tok, Fixed, after_symbol, after_op, first_place, unexpected, deep}
use Rattle.iv_rows.specs.Options.{if_some}
use Rattle.iv_query.specs.Trees.{OperandTree, OfColumn, Literal, CurrentUser, PredTree, Either, Both, Negation, Constant, Comparison}
use Rattle.iv_query.specs.Grammar.{IsOperand, column_is, name_is, number_is, text_is, true_is, false_is, user_is, stands_alone, Part, pred, conj, term, ors, ands, Reads, pred_is, ors_end, ors_more, conj_is, ands_end, ands_more, not_is, group_is, holds_is, fails_is, comparison_is, Faults, pred_first, pred_later, ors_first, ors_later, conj_first, conj_later, ands_first, ands_later, not_deep, not_in, group_deep, group_in, group_left, no_left, no_op, no_right, plain, dotted}
use Rattle.iv_query.specs.Reading.{◌>>=◌, Read, need, operand_at, truth_of, comparison_at, many_at, conj_at, pred_at, term_at}
use Rattle.iv_query.proofs.Loop.{is_last}
use Rattle.iv_query.proofs.Steps.{Front, there, absent, Front-after_symbol, FrontOp, op_there, op_absent, FrontOp-after_op, Outcome, good, bad, Outcome-bind}
use Rattle.iv_query.proofs.TextLaws.{Agreement}
use Rattle.iv_query.proofs.PartLaws.{Outcome-operand_at, operand_at-IsOperand, operand_at-OperandFault, le-IsOperand}

-- ---- no part gives tokens back

pub le-Reads : {d : Dialect} {s : Part} {room : ℕ} {ts us : List Tok} {t : PredTree} → Reads d s room ts t us → length us ≤ length ts
le-Reads (pred_is h k) = omega (arith, le-Reads h, le-Reads k)
le-Reads (ors_end e) = omega arith
le-Reads (ors_more h k) = omega (arith, le-Reads h, le-Reads k)
le-Reads (conj_is h k) = omega (arith, le-Reads h, le-Reads k)
le-Reads (ands_end e) = omega arith
le-Reads (ands_more h k) = omega (arith, le-Reads h, le-Reads k)
le-Reads (not_is h) = omega (arith, le-Reads h)
le-Reads (group_is h) = omega (arith, le-Reads h)
le-Reads (holds_is e) = omega arith
le-Reads (fails_is e) = omega arith
le-Reads (comparison_is h e k) = omega (arith, le-IsOperand h, le-IsOperand k)

-- ---- what the function gives is in the grammar

abbrev Judged : Fault → Dialect → Part → ℕ → List Tok → Read PredTree → Type 0
Judged stop d s room ts r = Outcome (Reads d s room ts) (Faults stop d s room ts) r

module _ (stop : Fault) (d : Dialect) (room : ℕ) (item : List Tok → Read PredTree) where
  ands_judged : (sound : (ts : List Tok) → Judged stop d term room ts (item ts)) (n : ℕ) (left : PredTree) (ts : List Tok) → length ts ≤ n → Judged stop d (ands left) room ts (many_at (after_symbol symbol.And) (λ _. item) Both n left ts)
  unfolding many_at after_symbol
  ands_judged sound zero left [] le = good (ands_end refl)
  ands_judged sound zero left (t ∷ ts) le = absurd (omega arith)
  ands_judged sound (suc n) left ts le = go ts le (after_symbol symbol.And ts) (Front-after_symbol symbol.And ts) (λ b vs below. ands_judged sound n (Both left b) vs below)
    where
      more : (p : ℕ) (us vs : List Tok) (b : PredTree) (r : Read PredTree) → Reads d term room us b vs → Judged stop d (ands (Both left b)) room vs r → Judged stop d (ands left) room (Fixed symbol.And p ∷ us) r
      more p us vs b (Ok x) h (good k) = good (ands_more h k)
      more p us vs b (Err f) h (bad k) = bad (ands_later h k)

      go : (ts : List Tok) → length ts ≤ suc n → (r : Option (List Tok)) → Front symbol.And ts r → ((b : PredTree) (vs : List Tok) → length vs ≤ n → Judged stop d (ands (Both left b)) room vs (many_at (after_symbol symbol.And) (λ _. item) Both n (Both left b) vs)) → Judged stop d (ands left) room ts (if_some r (Ok (left, ts)) (λ us. item us >>= λ x. many_at (after_symbol symbol.And) (λ _. item) Both n (Both left x.0) x.1))
      go ts le None (absent e) rest = good (ands_end e)
      go _ le (Some us) (there {p = p}) rest = Outcome-bind (item us) _ (sound us) (λ x h. more p us x.1 x.0 _ h (rest x.0 x.1 (omega (arith, le-Reads h)))) (λ f h. ands_first h)

  conj_judged : (sound : (ts : List Tok) → Judged stop d term room ts (item ts)) (ts : List Tok) → Judged stop d conj room ts (conj_at item ts)
  unfolding conj_at
  conj_judged sound ts = Outcome-bind (item ts) _ (sound ts) (λ x h. rest x.0 x.1 h _ (ands_judged sound (length x.1) x.0 x.1 (omega arith))) (λ f h. conj_first h)
    where
      rest : (a : PredTree) (us : List Tok) → Reads d term room ts a us → (r : Read PredTree) → Judged stop d (ands a) room us r → Judged stop d conj room ts r
      rest a us h (Ok x) (good k) = good (conj_is h k)
      rest a us h (Err f) (bad k) = bad (conj_later h k)

  ors_judged : (sound : (ts : List Tok) → Judged stop d conj room ts (item ts)) (n : ℕ) (left : PredTree) (ts : List Tok) → length ts ≤ n → Judged stop d (ors left) room ts (many_at (after_symbol symbol.Or) (λ _. item) Either n left ts)
  unfolding many_at after_symbol
  ors_judged sound zero left [] le = good (ors_end refl)
  ors_judged sound zero left (t ∷ ts) le = absurd (omega arith)
  ors_judged sound (suc n) left ts le = go ts le (after_symbol symbol.Or ts) (Front-after_symbol symbol.Or ts) (λ b vs below. ors_judged sound n (Either left b) vs below)
    where
      more : (p : ℕ) (us vs : List Tok) (b : PredTree) (r : Read PredTree) → Reads d conj room us b vs → Judged stop d (ors (Either left b)) room vs r → Judged stop d (ors left) room (Fixed symbol.Or p ∷ us) r
      more p us vs b (Ok x) h (good k) = good (ors_more h k)
      more p us vs b (Err f) h (bad k) = bad (ors_later h k)

      go : (ts : List Tok) → length ts ≤ suc n → (r : Option (List Tok)) → Front symbol.Or ts r → ((b : PredTree) (vs : List Tok) → length vs ≤ n → Judged stop d (ors (Either left b)) room vs (many_at (after_symbol symbol.Or) (λ _. item) Either n (Either left b) vs)) → Judged stop d (ors left) room ts (if_some r (Ok (left, ts)) (λ us. item us >>= λ x. many_at (after_symbol symbol.Or) (λ _. item) Either n (Either left x.0) x.1))
      go ts le None (absent e) rest = good (ors_end e)
      go _ le (Some us) (there {p = p}) rest = Outcome-bind (item us) _ (sound us) (λ x h. more p us x.1 x.0 _ h (rest x.0 x.1 (omega (arith, le-Reads h)))) (λ f h. ors_first h)

pred_judged : (stop : Fault) (d : Dialect) (room : ℕ) (item : List Tok → Read PredTree) (sound : (ts : List Tok) → Judged stop d term room ts (item ts)) (ts : List Tok) → Judged stop d pred room ts (pred_at item ts)
unfolding pred_at
pred_judged stop d room item sound ts = Outcome-bind (conj_at item ts) _ (conj_judged stop d room item sound ts) (λ x h. rest x.0 x.1 h _ (ors_judged stop d room (conj_at item) (conj_judged stop d room item sound) (length x.1) x.0 x.1 (omega arith))) (λ f h. pred_first h)
  where
    rest : (a : PredTree) (us : List Tok) → Reads d conj room ts a us → (r : Read PredTree) → Judged stop d (ors a) room us r → Judged stop d pred room ts r
    rest a us h (Ok x) (good k) = good (pred_is h k)
    rest a us h (Err f) (bad k) = bad (pred_later h k)

-- a truth value alone
alone_judged : (stop : Fault) (d : Dialect) (room : ℕ) (x : OperandTree) (ts us : List Tok) → IsOperand d ts x us → after_op us ≡ None → Judged stop d term room ts (if_some (truth_of x) (Err (unexpected stop us)) (λ b. Ok (Constant b, us)))
alone_judged stop d room _ ts us (column_is h) e = bad (no_op (column_is h) refl e)
alone_judged stop d room _ _ us name_is e = bad (no_op name_is refl e)
alone_judged stop d room _ _ us number_is e = bad (no_op number_is refl e)
alone_judged stop d room _ _ us text_is e = bad (no_op text_is refl e)
alone_judged stop d room _ _ us true_is e = good (holds_is e)
alone_judged stop d room _ _ us false_is e = good (fails_is e)
alone_judged stop d room _ _ us user_is e = bad (no_op user_is refl e)

comparison_judged : (stop : Fault) (d : Dialect) (room : ℕ) (ts : List Tok) → after_symbol symbol.Not ts ≡ None → after_symbol symbol.Open ts ≡ None → Judged stop d term room ts (comparison_at d stop ts)
unfolding comparison_at
comparison_judged stop d room ts n o = Outcome-bind (operand_at d stop ts) _ (Outcome-operand_at stop d ts) (λ x h. behind x.0 x.1 h (after_op x.1) (FrontOp-after_op x.1)) (λ f h. no_left n o h)
  where
    behind : (x : OperandTree) (us : List Tok) → IsOperand d ts x us → (r : Option (Op × List Tok)) → FrontOp us r → Judged stop d term room ts (if_some r (if_some (truth_of x) (Err (unexpected stop us)) (λ b. Ok (Constant b, us))) (λ o. operand_at d stop o.1 >>= λ y. Ok (Comparison x o.0 y.0, y.1)))
    behind x us h None (op_absent e) = alone_judged stop d room x ts us h e
    behind x _ h (Some o) (op_there e) = Outcome-bind (operand_at d stop o.1) _ (Outcome-operand_at stop d o.1) (λ y k. good (comparison_is h e k)) (λ f k. no_right h e k)

close_judged : (stop : Fault) (d : Dialect) (room p : ℕ) (ts us : List Tok) (a : PredTree) → Reads d pred room ts a us → Judged stop d term (suc room) (Fixed symbol.Open p ∷ ts) (need symbol.Close stop us >>= λ vs. Ok (a, vs))
unfolding need
close_judged stop d room p ts us a h = go us h (after_symbol symbol.Close us) (Front-after_symbol symbol.Close us)
  where
    go : (us : List Tok) → Reads d pred room ts a us → (r : Option (List Tok)) → Front symbol.Close us r → Judged stop d term (suc room) (Fixed symbol.Open p ∷ ts) (◌>>=◌ {A = List Tok} {B = PredTree × List Tok} (if_some r (Err (unexpected stop us)) Ok) (λ vs. Ok (a, vs)))
    go us h None (absent e) = bad (group_left h e)
    go _ h (Some vs) there = good (group_is h)

term_judged : (stop : Fault) (d : Dialect) (room : ℕ) (ts : List Tok) → Judged stop d term room ts (term_at d stop room ts)
unfolding term_at
term_judged stop d zero ts = go ts (after_symbol symbol.Not ts) (after_symbol symbol.Open ts) (Front-after_symbol symbol.Not ts) (Front-after_symbol symbol.Open ts)
  where
    go : (ts : List Tok) (n o : Option (List Tok)) → Front symbol.Not ts n → Front symbol.Open ts o → Judged stop d term zero ts (if_some n (if_some o (comparison_at d stop ts) (λ us. Err (deep (first_place stop ts)))) (λ us. Err (deep (first_place stop ts))))
    go ts None None (absent e) (absent f) = comparison_judged stop d zero ts e f
    go _ None (Some us) e there = bad group_deep
    go _ (Some us) o there f = bad not_deep
term_judged stop d (suc room) ts = go ts (after_symbol symbol.Not ts) (after_symbol symbol.Open ts) (Front-after_symbol symbol.Not ts) (Front-after_symbol symbol.Open ts) (λ us. term_judged stop d room us)
  where
    go : (ts : List Tok) (n o : Option (List Tok)) → Front symbol.Not ts n → Front symbol.Open ts o → ((us : List Tok) → Judged stop d term room us (term_at d stop room us))
        → Judged stop d term (suc room) ts (if_some n (if_some o (comparison_at d stop ts) (λ us. pred_at (term_at d stop room) us >>= λ x. need symbol.Close stop x.1 >>= λ vs. Ok (x.0, vs))) (λ us. term_at d stop room us >>= λ x. Ok (Negation x.0, x.1)))
    go ts None None (absent e) (absent f) sound = comparison_judged stop d (suc room) ts e f
    go _ None (Some us) e (there {p = p}) sound = Outcome-bind (pred_at (term_at d stop room) us) _ (pred_judged stop d room (term_at d stop room) sound us) (λ x h. close_judged stop d room p us x.1 x.0 h) (λ f h. group_in h)
    go _ (Some us) o there f sound = Outcome-bind (term_at d stop room us) _ (sound us) (λ x h. good (not_is h)) (λ f h. not_in h)

-- ---- what is in the grammar is what the function gives

abbrev Agrees : Fault → Dialect → Part → ℕ → List Tok → Read PredTree → Type 0
Agrees stop d term room ts r = term_at d stop room ts ≡ r
Agrees stop d conj room ts r = conj_at (term_at d stop room) ts ≡ r
Agrees stop d pred room ts r = pred_at (term_at d stop room) ts ≡ r
Agrees stop d (ands a) room ts r = (n : ℕ) → length ts ≤ n → many_at (after_symbol symbol.And) (λ _. term_at d stop room) Both n a ts ≡ r
Agrees stop d (ors a) room ts r = (n : ℕ) → length ts ≤ n → many_at (after_symbol symbol.Or) (λ _. conj_at (term_at d stop room)) Either n a ts ≡ r

-- what begins no group is read as a comparison
compared : (stop : Fault) (d : Dialect) (room : ℕ) (ts : List Tok) → after_symbol symbol.Not ts ≡ None → after_symbol symbol.Open ts ≡ None → term_at d stop room ts ≡ comparison_at d stop ts
unfolding term_at
compared stop d zero ts n o = rw (n, o) refl
compared stop d (suc room) ts n o = rw (n, o) refl

-- an operand begins no group
no_not : {d : Dialect} {ts us : List Tok} {x : OperandTree} → IsOperand d ts x us → after_symbol symbol.Not ts ≡ None
unfolding after_symbol
no_not (column_is (plain e)) = refl
no_not (column_is dotted) = refl
no_not name_is = refl
no_not number_is = refl
no_not text_is = refl
no_not true_is = refl
no_not false_is = refl
no_not user_is = refl

no_open : {d : Dialect} {ts us : List Tok} {x : OperandTree} → IsOperand d ts x us → after_symbol symbol.Open ts ≡ None
unfolding after_symbol
no_open (column_is (plain e)) = refl
no_open (column_is dotted) = refl
no_open name_is = refl
no_open number_is = refl
no_open text_is = refl
no_open true_is = refl
no_open false_is = refl
no_open user_is = refl

begun : (stop : Fault) (d : Dialect) (room : ℕ) {ts us : List Tok} {x : OperandTree} → IsOperand d ts x us → term_at d stop room ts ≡ comparison_at d stop ts
begun stop d room {ts} h = compared stop d room ts (no_not h) (no_open h)

-- an operand that is no truth value does not stand alone
not_alone : (x : OperandTree) → stands_alone x ≡ false → truth_of x ≡ None
not_alone (Literal (flag b) p) e = absurd cc
not_alone (Literal (num n) p) e = refl
not_alone (Literal (text v) p) e = refl
not_alone (OfColumn c) e = refl
not_alone (CurrentUser p) e = refl

module _ (sign : List Tok → Option (List Tok)) (item : List Tok → Read PredTree) (join : PredTree → PredTree → PredTree) where
  step : (n : ℕ) (left b : PredTree) (ts us vs : List Tok) (r : Read PredTree) → sign ts ≡ Some us → item us ≡ Ok (b, vs) → length vs ≤ length us → suc (length us) ≤ n
      → ((m : ℕ) → length vs ≤ m → many_at sign (λ _. item) join m (join left b) vs ≡ r) → many_at sign (λ _. item) join n left ts ≡ r
  unfolding many_at
  step zero left b ts us vs r s h short le k = absurd (omega arith)
  step (suc n) left b ts us vs r s h short le k = rw (s, h) (k n (omega arith))

  step_fails : (n : ℕ) (left : PredTree) (ts us : List Tok) (f : Fault) → sign ts ≡ Some us → item us ≡ Err f → suc (length us) ≤ n → many_at sign (λ _. item) join n left ts ≡ Err f
  unfolding many_at
  step_fails zero left ts us f s h le = absurd (omega arith)
  step_fails (suc n) left ts us f s h le = rw (s, h) refl

pub reads_agree : {d : Dialect} {s : Part} {room : ℕ} {ts us : List Tok} {t : PredTree} (stop : Fault) → Reads d s room ts t us → Agrees stop d s room ts (Ok (t, us))
unfolding after_symbol term_at conj_at pred_at comparison_at need operand_at
reads_agree stop (pred_is h k) = rw (reads_agree stop h) (reads_agree stop k _ (omega arith))
reads_agree stop (ors_end e) = λ n le. is_last _ _ _ n _ _ e
reads_agree stop (ors_more h k) = λ n le. step _ _ _ n _ _ _ _ _ _ refl (reads_agree stop h) (le-Reads h) le (reads_agree stop k)
reads_agree stop (conj_is h k) = rw (reads_agree stop h) (reads_agree stop k _ (omega arith))
reads_agree stop (ands_end e) = λ n le. is_last _ _ _ n _ _ e
reads_agree stop (ands_more h k) = λ n le. step _ _ _ n _ _ _ _ _ _ refl (reads_agree stop h) (le-Reads h) le (reads_agree stop k)
reads_agree stop (not_is h) = rw (reads_agree stop h) refl
reads_agree stop (group_is h) = rw (reads_agree stop h) refl
reads_agree {d = d} {room = room} stop (holds_is {p = p} {ts = ts} e) = begun stop d room (true_is {d = d} {p = p} {ts = ts}) ∙ rw e refl
reads_agree {d = d} {room = room} stop (fails_is {p = p} {ts = ts} e) = begun stop d room (false_is {d = d} {p = p} {ts = ts}) ∙ rw e refl
reads_agree {d = d} {room = room} stop (comparison_is h e k) = begun stop d room h ∙ rw (operand_at-IsOperand stop h, e, operand_at-IsOperand stop k) refl

pub faults_agree : (stop : Fault) {d : Dialect} {s : Part} {room : ℕ} {ts : List Tok} {f : Fault} → Faults stop d s room ts f → Agrees stop d s room ts (Err f)
unfolding after_symbol term_at conj_at pred_at comparison_at need
faults_agree stop (pred_first h) = rw (faults_agree stop h) refl
faults_agree stop (pred_later h k) = rw (reads_agree stop h) (faults_agree stop k _ (omega arith))
faults_agree stop (ors_first h) = λ n le. step_fails _ _ _ n _ _ _ _ refl (faults_agree stop h) le
faults_agree stop (ors_later h k) = λ n le. step _ _ _ n _ _ _ _ _ _ refl (reads_agree stop h) (le-Reads h) le (faults_agree stop k)
faults_agree stop (conj_first h) = rw (faults_agree stop h) refl
faults_agree stop (conj_later h k) = rw (reads_agree stop h) (faults_agree stop k _ (omega arith))
faults_agree stop (ands_first h) = λ n le. step_fails _ _ _ n _ _ _ _ refl (faults_agree stop h) le
faults_agree stop (ands_later h k) = λ n le. step _ _ _ n _ _ _ _ _ _ refl (reads_agree stop h) (le-Reads h) le (faults_agree stop k)
faults_agree stop not_deep = refl
faults_agree stop (not_in h) = rw (faults_agree stop h) refl
faults_agree stop group_deep = refl
faults_agree stop (group_in h) = rw (faults_agree stop h) refl
faults_agree stop (group_left {us = us} h e) = rw (reads_agree stop h, e) refl
faults_agree stop {d = d} {room = room} (no_left {ts = ts} n o h) = compared stop d room ts n o ∙ rw (operand_at-OperandFault stop h) refl
faults_agree stop {d = d} {room = room} (no_op {x = x} h e f) = begun stop d room h ∙ rw (operand_at-IsOperand stop h, f, not_alone x e) refl
faults_agree stop {d = d} {room = room} (no_right h e k) = begun stop d room h ∙ rw (operand_at-IsOperand stop h, e, operand_at-OperandFault stop k) refl

pub Agreement-pred_at : (d : Dialect) → Agreement (Reads d pred 32) (λ stop. Faults stop d pred 32) (λ stop. pred_at (term_at d stop 32))
Agreement-pred_at d = record {
  judged = λ stop ts. pred_judged stop d 32 (term_at d stop 32) (term_judged stop d 32) ts;
  reads = λ stop h. reads_agree stop h;
  faults = λ stop h. faults_agree stop h;
}
