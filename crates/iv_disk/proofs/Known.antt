-- What is known of the bytes of a disk, behind writes and cuts.
use Rattle.std.proofs.Common.{◌≡◌, ℕ, ◌-◌, List, [], ◌++◌, None, Some, IfSome, OnOk, OnErr, Result, Ok, Err, length, take, drop, sym, ap, ◌∙◌, subst, append_assoc, append-nil, take-append-drop}
use Rattle.std.specs.Prelude.{Option}
use Rattle.std.proofs.lemmas.List.{take_rest}
use Rattle.std.specs.Io.KnownBytes.{Appends, Keeps}
use Rattle.std.proofs.KnownBytes.{Appends-kept, Appends-nil}
use lib.Seq.{take-append_seam}
use Rattle.iv_disk.specs.Disk.{first_known}

-- ---- writes

pub OnErr-whatever : {X E P : Type 0} (r : Result X E) → P → OnErr r P
OnErr-whatever (Ok x) p = tt
OnErr-whatever (Err e) p = p

-- nothing was appended
kept_of : (a b : Option (List ℕ)) → Appends a b [] → Keeps a b
kept_of None b p = tt
kept_of (Some xs) None p = absurd p
kept_of (Some xs) (Some ys) p = p ∙ append-nil xs

pub Keeps-Appends_none : (a b : Option (List ℕ)) (n : ℕ) (bs : List ℕ) → n ≡ 0 → Appends a b (take n bs) → Keeps a b
Keeps-Appends_none a b n bs h p = kept_of a b (subst (λ m. Appends a b (take m bs)) h p)

-- where nothing was written, a front of it was
pub Appends-none : (a : Option (List ℕ)) (bs : List ℕ) → (k : ℕ) × Appends a a (take k bs)
Appends-none a bs = (0, Appends-nil a)

-- a front of the rest goes to what is done
pub append-moved_front : (all done rest : List ℕ) (n : ℕ) → all ≡ done ++ rest → all ≡ (done ++ take n rest) ++ take (length rest - n) (drop n rest)
append-moved_front all done rest n e =
    e ∙ ap (λ l. done ++ l) (sym (take-append-drop n rest)) ∙ sym (append_assoc done (take n rest) (drop n rest)) ∙ ap (λ l. (done ++ take n rest) ++ l) (sym (take_rest rest n))

-- what is done is a front of all
pub Appends-take_of_done : (a b : Option (List ℕ)) (all done rest : List ℕ) → all ≡ done ++ rest → Appends a b done → (n : ℕ) × Appends a b (take n all)
Appends-take_of_done a b all done rest e p = (length done, subst (Appends a b) (sym (ap (take (length done)) e ∙ take-append_seam done rest)) p)

pub Appends-Keeps_front : (a b c : Option (List ℕ)) (all done rest : List ℕ) → all ≡ done ++ rest → Appends a b done → Keeps b c
    → (k : ℕ) × Appends a c (take k all)
Appends-Keeps_front a b c all done rest e p q = Appends-take_of_done a c all done rest e (Appends-kept a b c done p q)

pub Appends-Keeps_whole : (a b c : Option (List ℕ)) (bs : List ℕ) → Appends a b bs → Keeps b c → (k : ℕ) × Appends a c (take k bs)
Appends-Keeps_whole a b c bs p q = Appends-Keeps_front a b c bs bs [] (sym (append-nil bs)) p q

-- ---- cuts

-- a cut to where the bytes ended leaves none of those that were written
pub cut_back : (a b c : Option (List ℕ)) (bs : List ℕ) (end : ℕ) → IfSome a (λ xs. end ≡ length xs) → Appends a b bs → Keeps (first_known end b) c → Appends a c []
cut_back None b c bs end l p k = tt
cut_back (Some xs) None c bs end l p k = absurd p
cut_back (Some xs) (Some ys) None bs end l p k = absurd k
cut_back (Some xs) (Some ys) (Some zs) bs end l p k =
    k ∙ (ap (λ n. take n ys) l ∙ (ap (take (length xs)) p ∙ (take-append_seam xs bs ∙ sym (append-nil xs))))

-- whether it succeeds or not, a front is left
pub Appends-first_known : {X E : Type 0} (r : Result X E) (a b c : Option (List ℕ)) (bs : List ℕ) (n end : ℕ) → IfSome a (λ xs. end ≡ length xs)
    → Appends a b (take n bs)
    → OnOk r (Keeps (first_known end b) c) → OnErr r (Keeps b c) → (k : ℕ) × Appends a c (take k bs)
Appends-first_known (Ok x) a b c bs n end l p cut fails = (0, cut_back a b c (take n bs) end l p cut)
Appends-first_known (Err e) a b c bs n end l p cut fails = (n, Appends-kept a b c (take n bs) p fails)
