-- What a disk keeps, behind what is appended to it.
use Rattle.std.proofs.Common.{◌≡◌, ℕ, ◌<◌, ◌^◌, true, List, [], ◌∷◌, ◌++◌, append-nil, None, Some, IfSome, take, length, refl, ap, ◌∙◌, sym, subst, arith}
use Rattle.std.specs.Prelude.{◌≤◌, Option, option_map}
use Rattle.std.specs.List.{AllByRecursion}
use Rattle.std.specs.Io.KnownBytes.{Appends, Keeps}
use Rattle.iv_journal.specs.Journal.{Line, digest_behind, is_text, journal_of, no_digest}
use Rattle.iv_journal.specs.Ends.{AreEnded}
use Rattle.iv_audit.specs.Audit.{head_line}
use Rattle.iv_audit.specs.Laws.{BytesHaveLines, GoOn}
use Rattle.iv_audit.specs.Reading.{IsAudit, ends_line, given_in, lines_in}
use Rattle.iv_audit.specs.Writing.{GoesOnWith, IsPushed}
use Rattle.iv_audit.specs.declared.reading.Audit.{Audit}
use Rattle.iv_audit.specs.declared.writing.Share.{Share}
use Rattle.iv_disk.specs.Disk.{first_known}
use Rattle.iv_disk.specs.Kept.{IsJournalTo, given_to, is_whole}

abbrev pub IsSilent : Option (List ℕ) → Option (List ℕ) → Type 0
IsSilent old new = old ≡ None → new ≡ None

tells_not : {P : Type 0} (ys : List ℕ) → Some ys ≡ None → P
tells_not ys e = absurd (let no : ⊥ = cc in no)

-- ---- it begins

pub record IsBegun (a : Audit) (bytes : List ℕ) : Type 0 where
  pub lines : List Line
  pub journal : bytes ≡ journal_of lines
  pub texts : AllByRecursion (λ l. is_text l.text ≡ true) lines
  pub ended : AreEnded lines a.end
  pub given : a.lines.items ≡ given_in lines

pub begun : (a : Audit) (old new : Option (List ℕ)) → IfSome old (λ xs. IsAudit xs a) → Keeps (first_known a.end.length old) new → IsSilent old new → IfSome new (IsBegun a)
begun a None None h k s = tt
begun a None (Some ys) h k s = tells_not ys (s refl)
begun a (Some xs) None h k s = absurd k
begun a (Some xs) (Some ys) h k s =
    record { lines = h.lines; journal = k ∙ h.front; texts = h.texts; ended = h.ended; given = h.given }

some_lines : (n : ℕ) (ls : List Line) (digest bytes : List ℕ) → (n ≡ 0 → ⊥) → n ≡ length ls → bytes ≡ journal_of ls → digest ≡ digest_behind no_digest ls
    → AllByRecursion (λ (l : Line). is_text l.text ≡ true) ls → IsJournalTo digest bytes
some_lines n [] digest bytes h e j d t = absurd (h e)
some_lines n (l ∷ ls) digest bytes h e j d t = record { head = l; lines = ls; journal = j; ends = d; texts = t }

pub stands_on : (a : Audit) (o : Option (List ℕ)) → IfSome o (IsBegun a) → (a.end.lines ≡ 0 → ⊥) → IfSome o (IsJournalTo a.end.digest)
stands_on a None b h = tt
stands_on a (Some ys) b h = some_lines a.end.lines b.lines a.end.digest ys h b.ended.lines b.journal b.ended.digest b.texts

pub kept_on : BytesHaveLines → (a : Audit) (o : Option (List ℕ)) → IfSome o (IsBegun a) → IfSome o (λ ys. lines_in ys ≡ a.lines.items)
kept_on law a None b = tt
kept_on law a (Some ys) b = ap lines_in b.journal ∙ (law b.lines b.texts ∙ sym b.given)

no_lines : (n : ℕ) (ls : List Line) → n ≡ length ls → n ≡ 0 → ls ≡ []
no_lines n [] e z = refl
no_lines n (l ∷ ls) e z = absurd (let no : ⊥ = omega (arith, e, z) in no)

pub empty_on : (a : Audit) (o : Option (List ℕ)) → IfSome o (IsBegun a) → a.end.lines ≡ 0 → IfSome o (λ ys. ys ≡ [])
empty_on a None b z = tt
empty_on a (Some ys) b z = b.journal ∙ ap journal_of (no_lines a.end.lines b.lines b.ended.lines z)

pub none_on : (a : Audit) (old new : Option (List ℕ)) → IfSome old (IsBegun a) → a.end.lines ≡ 0 → IsSilent old new → IfSome new (λ ys. lines_in ys ≡ []) → IfSome new (λ ys. lines_in ys ≡ a.lines.items)
none_on a old None b z s h = tt
none_on a None (Some ys) b z s h = tells_not ys (s refl)
none_on a (Some xs) (Some ys) b z s h = h ∙ sym (b.given ∙ ap given_in (no_lines a.end.lines b.lines b.ended.lines z))

-- IsPushed-seen to nothing behind nothing
pub IsPushed-seen : (epoch before was chain out seen : List ℕ) → before ≡ no_digest → was ≡ [] → seen ≡ out → IsPushed (head_line epoch) before chain was out
    → IsPushed (head_line epoch) no_digest chain [] seen
IsPushed-seen epoch before was chain out seen e f g h =
    subst (λ (y : List ℕ). IsPushed (head_line epoch) no_digest chain [] y) (sym g)
    (subst (λ (z : List ℕ). IsPushed (head_line epoch) z chain [] out) e (subst (λ (w : List ℕ). IsPushed (head_line epoch) before chain w out) f h))

pub IsJournalTo-IsPushed : (epoch chain out : List ℕ) (old new : Option (List ℕ)) → IfSome old (λ xs. xs ≡ []) → Appends old new out → IsSilent old new → IsPushed (head_line epoch) no_digest chain [] out
    → IfSome new (IsJournalTo chain)
IsJournalTo-IsPushed epoch chain out None None h p s q = tt
IsJournalTo-IsPushed epoch chain out None (Some ys) h p s q = tells_not ys (s refl)
IsJournalTo-IsPushed epoch chain out (Some xs) None h p s q = absurd p
IsJournalTo-IsPushed epoch chain out (Some xs) (Some ys) h p s q =
    record { head = head_line epoch; lines = []; journal = p ∙ (ap (λ z. z ++ out) h ∙ q.bytes); ends = q.digest; texts = (q.is, tt) }

pub lines_in-IsPushed : BytesHaveLines → (epoch chain out : List ℕ) (old new : Option (List ℕ)) → IfSome old (λ xs. xs ≡ []) → Appends old new out
    → IsSilent old new
    → IsPushed (head_line epoch) no_digest chain [] out → IfSome new (λ ys. lines_in ys ≡ [])
lines_in-IsPushed law epoch chain out None None h p s q = tt
lines_in-IsPushed law epoch chain out None (Some ys) h p s q = tells_not ys (s refl)
lines_in-IsPushed law epoch chain out (Some xs) None h p s q = absurd p
lines_in-IsPushed law epoch chain out (Some xs) (Some ys) h p s q = ap lines_in (p ∙ (ap (λ z. z ++ out) h ∙ q.bytes)) ∙ law (head_line epoch ∷ []) (q.is, tt)

pub whole_on : GoOn → (digest : List ℕ) (o : Option (List ℕ)) → IfSome o (IsJournalTo digest) → is_whole o ≡ true
whole_on law digest None h = refl
whole_on law digest (Some ys) h = ap ends_line h.journal ∙ law.ended h.head h.lines

-- ---- it goes on

pub GoesOnWith-seen : (t : ℕ) (shares : List Share) (given : List Line) (d e was out seen : List ℕ) → was ≡ [] → seen ≡ out → GoesOnWith (Some t) shares given d e was out
    → GoesOnWith (Some t) shares given d e [] seen
GoesOnWith-seen t shares given d e was out seen f g h =
    subst (λ (y : List ℕ). GoesOnWith (Some t) shares given d e [] y) (sym g) (subst (λ (w : List ℕ). GoesOnWith (Some t) shares given d e w out) f h)

-- what was given before, and these
abbrev pub GivenMore : Option (List ℕ) → Option (List ℕ) → List Line → Type 0
GivenMore old new given = given_to new ≡ option_map (λ ls. ls ++ given) (given_to old)

pub GivenMore-GoesOnWith : GoOn → (t : ℕ) (shares : List Share) (given : List Line) (d e out : List ℕ) (old new : Option (List ℕ)) → t < 2 ^ 64
    → is_whole old ≡ true
    → GoesOnWith (Some t) shares given d e [] out → Appends old new out → IsSilent old new → GivenMore old new given
GivenMore-GoesOnWith law t shares given d e out None new s h g p q = ap given_to (q refl)
GivenMore-GoesOnWith law t shares given d e out (Some xs) None s h g p q = absurd p
GivenMore-GoesOnWith law t shares given d e out (Some xs) (Some ys) s h g p q =
    ap Some (ap lines_in p ∙ (law.bytes xs (Some t) shares given d e out h s g).whole)

pub is_whole-GoesOnWith : GoOn → (t : ℕ) (shares : List Share) (given : List Line) (d e out : List ℕ) (old new : Option (List ℕ)) → t < 2 ^ 64
    → is_whole old ≡ true
    → GoesOnWith (Some t) shares given d e [] out → Appends old new out → IsSilent old new → is_whole new ≡ true
is_whole-GoesOnWith law t shares given d e out old None s h g p q = refl
is_whole-GoesOnWith law t shares given d e out None (Some ys) s h g p q = tells_not ys (q refl)
is_whole-GoesOnWith law t shares given d e out (Some xs) (Some ys) s h g p q = ap ends_line p ∙ (law.bytes xs (Some t) shares given d e out h s g).ended

pub IsJournalTo-GoesOnWith : GoOn → (t : ℕ) (shares : List Share) (given : List Line) (d e out : List ℕ) (old new : Option (List ℕ)) → GoesOnWith (Some t) shares given d e [] out → Appends old new out
    → IsSilent old new → IfSome old (IsJournalTo d) → IfSome new (IsJournalTo e)
IsJournalTo-GoesOnWith law t shares given d e out old None g p q h = tt
IsJournalTo-GoesOnWith law t shares given d e out None (Some ys) g p q h = tells_not ys (q refl)
IsJournalTo-GoesOnWith law t shares given d e out (Some xs) (Some ys) g p q h =
    let k = law.journals (h.head ∷ h.lines) (Some t) shares given e out h.texts (subst (λ (z : List ℕ). GoesOnWith (Some t) shares given z e [] out) h.ends g) in
    record { head = h.head; lines = h.lines ++ k.more; journal = p ∙ (ap (λ z. z ++ out) h.journal ∙ k.journal); ends = k.digest; texts = k.texts }

-- of these the first
abbrev pub GivenFirst : Option (List ℕ) → Option (List ℕ) → List Line → Type 0
GivenFirst old new given = (n : ℕ) × (n ≤ length given) × GivenMore old new (take n given)

pub GivenFirst-GoesOnWith : GoOn → (t : ℕ) (shares : List Share) (given : List Line) (d e out : List ℕ) (old new : Option (List ℕ)) (n : ℕ) → t < 2 ^ 64 → is_whole old ≡ true
    → GoesOnWith (Some t) shares given d e [] out → Appends old new (take n out) → IsSilent old new → GivenFirst old new given
GivenFirst-GoesOnWith law t shares given d e out None new n s h g p q = (0, omega arith, ap given_to (q refl))
GivenFirst-GoesOnWith law t shares given d e out (Some xs) None n s h g p q = absurd p
GivenFirst-GoesOnWith law t shares given d e out (Some xs) (Some ys) n s h g p q =
    let m = (law.bytes xs (Some t) shares given d e out h s g).torn n in
    (m.0, m.1, ap Some (ap lines_in p ∙ m.2))

-- nothing was written
pub GivenFirst-itself : (o : Option (List ℕ)) (given : List Line) → GivenFirst o o given
GivenFirst-itself None given = (0, omega arith, refl)
GivenFirst-itself (Some xs) given = (0, omega arith, ap Some (sym (append-nil (lines_in xs))))
