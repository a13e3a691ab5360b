-- All values of a form's keys pass exactly where they make an act.
use Rattle.iv_message.proofs.Options.{not_Some-None, same_Some}
use Rattle.std.proofs.Common.{◌≡◌, ◌∙◌, ℕ, List, [], ◌∷◌, ◌++◌, Bool, true, false, ◌&&◌, cond, Option, Some, None, option_map, option_and_then, refl, subst}
use Rattle.std.specs.List.{list_all}
use Rattle.std.specs.Prelude.{codes, find, is_some, bytes_eq}
use Rattle.iv_access.specs.declared.policy.PolicyCommand.{PolicyCommand}
use Rattle.iv_access.specs.declared.policy.PolicyCommand.TheVariants as policy_command
use Rattle.iv_machine.specs.Act as machine
use Rattle.iv_machine.specs.Parts.{has_texts}
use Rattle.serde_json.specs.Data.{Data}
use Rattle.serde_json.specs.Find.{get}
use Rattle.iv_request.specs.Forms.{Form, forms, form_of}
use Rattle.iv_request.specs.Request.{scope, policy, passing, has_its_texts, name_at, text_at, bool_at, columns_at, privileges_at, grantee_at, group_at, restrictive_at, policy_command_at, grantees_at, text_if_at, entries_at, positive_of, granting, grant_by, revoke_by, membership, grant_role_by, revoke_role_by, act_for}
use Rattle.iv_message.specs.Message.{using_fits, check_fits, goes_with, passes}

-- ---- parts that are there, and what is made of them

one : {X Z : Type 0} (o : Option X) (f : X → Z) → (is_some o && true) ≡ is_some (option_map f o)
one None f = refl
one (Some x) f = refl

two : {X Y Z : Type 0} (o : Option X) (p : Option Y) (f : X → Y → Z) → (is_some o && (is_some p && true)) ≡ is_some (option_and_then (λ x. option_map (f x) p) o)
two None p f = refl
two (Some x) None f = refl
two (Some x) (Some y) f = refl

three : {X Y Z W : Type 0} (o : Option X) (p : Option Y) (q : Option Z) (f : X → Y → Z → W) → (is_some o && (is_some p && (is_some q && true))) ≡ is_some (option_and_then (λ x. option_and_then (λ y. option_map (f x y) q) p) o)
three None p q f = refl
three (Some x) None q f = refl
three (Some x) (Some y) None f = refl
three (Some x) (Some y) (Some z) f = refl

two_by : {X Y Z W : Type 0} (o : Option X) (p : Option Y) (f : X → Y → Z) (g : Z → W) → (is_some o && (is_some p && true)) ≡ is_some (option_map g (option_and_then (λ x. option_map (f x) p) o))
two_by None p f g = refl
two_by (Some x) None f g = refl
two_by (Some x) (Some y) f g = refl

-- the second and the third stand the other way round
three_by : {X Y Z W V : Type 0} (o : Option X) (p : Option Y) (q : Option Z) (f : X → Y → Z → W) (g : W → V) → (is_some o && (is_some q && (is_some p && true))) ≡ is_some (option_map g (option_and_then (λ x. option_and_then (λ y. option_map (f x y) q) p) o))
three_by None p q f g = refl
three_by (Some x) None None f g = refl
three_by (Some x) None (Some z) f g = refl
three_by (Some x) (Some y) None f g = refl
three_by (Some x) (Some y) (Some z) f g = refl

-- ---- policies

and_false : (b : Bool) → (b && false) ≡ false
and_false true = refl
and_false false = refl

texts_apart : (c : PolicyCommand) (u k : Option (List ℕ)) → (using_fits c u && (check_fits c k && true)) ≡ has_texts c u k
texts_apart policy_command.All None None = refl
texts_apart policy_command.All None (Some k) = refl
texts_apart policy_command.All (Some u) None = refl
texts_apart policy_command.All (Some u) (Some k) = refl
texts_apart policy_command.Select None None = refl
texts_apart policy_command.Select None (Some k) = refl
texts_apart policy_command.Select (Some u) None = refl
texts_apart policy_command.Select (Some u) (Some k) = refl
texts_apart policy_command.Insert None None = refl
texts_apart policy_command.Insert None (Some k) = refl
texts_apart policy_command.Insert (Some u) None = refl
texts_apart policy_command.Insert (Some u) (Some k) = refl
texts_apart policy_command.Update None None = refl
texts_apart policy_command.Update None (Some k) = refl
texts_apart policy_command.Update (Some u) None = refl
texts_apart policy_command.Update (Some u) (Some k) = refl
texts_apart policy_command.Delete None None = refl
texts_apart policy_command.Delete None (Some k) = refl
texts_apart policy_command.Delete (Some u) None = refl
texts_apart policy_command.Delete (Some u) (Some k) = refl

abbrev Name : Type 0
Name = List ℕ

abbrev policy_passing : Option Bool → Option PolicyCommand → Option (List (Option Name)) → (o n : Option Name) → (u k : Option (Option Name)) → Bool
policy_passing r c t o n u k = is_some o && (is_some n && (is_some r && (is_some c && (is_some t && (goes_with using_fits c u && (goes_with check_fits c k && true))))))

abbrev policy_made : Option Bool → Option PolicyCommand → Option (List (Option Name)) → (o n : Option Name) → (u k : Option (Option Name)) → Option machine.Act
policy_made r c t o n u k = option_map machine.create_policy (option_and_then (passing has_its_texts)
    (option_and_then (λ s. option_and_then (λ rel. option_and_then (λ name. option_and_then (λ using. option_map (policy rel name s using) k) u) n) o)
    (option_and_then (λ restrictive. option_and_then (λ command. option_map (scope restrictive command) t) c) r)))

made_if : (b : Bool) (p : machine.PolicyText) → b ≡ is_some (option_map machine.create_policy (cond b (Some p) None))
made_if true p = refl
made_if false p = refl

policy_by : (r : Option Bool) (c : Option PolicyCommand) (t : Option (List (Option Name))) (o n : Option Name) (u k : Option (Option Name)) → policy_passing r c t o n u k ≡ is_some (policy_made r c t o n u k)
policy_by None c t None n u k = refl
policy_by None c t (Some o) None u k = refl
policy_by None c t (Some o) (Some n) u k = refl
policy_by (Some r) None t None n u k = refl
policy_by (Some r) None t (Some o) None u k = refl
policy_by (Some r) None t (Some o) (Some n) u k = refl
policy_by (Some r) (Some c) None None n u k = refl
policy_by (Some r) (Some c) None (Some o) None u k = refl
policy_by (Some r) (Some c) None (Some o) (Some n) u k = refl
policy_by (Some r) (Some c) (Some t) None n u k = refl
policy_by (Some r) (Some c) (Some t) (Some o) None u k = refl
policy_by (Some r) (Some c) (Some t) (Some o) (Some n) None k = refl
policy_by (Some r) (Some c) (Some t) (Some o) (Some n) (Some u) None = and_false (using_fits c u)
policy_by (Some r) (Some c) (Some t) (Some o) (Some n) (Some u) (Some k) = texts_apart c u k ∙ made_if (has_texts c u k) (policy o n (scope r c t) u k)

-- ---- forms

abbrev Decides : Form → Type 0
Decides f = (d : Data) → list_all (λ key. passes f.word key d) (f.required ++ f.optional) ≡ is_some (act_for f.word d)

abbrev Each : (Form → Type 0) → List Form → Type 0
Each P [] = Unit {0}
Each P (f ∷ fs) = P f × Each P fs

found_has : (P : Form → Type 0) (test : Form → Bool) (fs : List Form) (f : Form) → Each P fs → find test fs ≡ Some f → P f
found_has P test [] f h e = absurd (not_Some-None f e)
found_has P test (g ∷ fs) f h e = part (found_has P test fs f h.1) (test g) e
  where
    part : (find test fs ≡ Some f → P f) → (b : Bool) → cond b (Some g) (find test fs) ≡ Some f → P f
    part rest true i = subst P (same_Some g f i) h.0
    part rest false i = rest i

all_decide : Each Decides forms
all_decide = (
  (λ d. one (name_at (codes "role") d) machine.begin),
  (
    (λ d. refl),
    (
      (λ d. one (name_at (codes "name") d) machine.create_role),
      (
        (λ d. three (name_at (codes "name") d) (name_at (codes "owner") d) (columns_at d) machine.create_table),
        (
          (λ d. three (name_at (codes "name") d) (name_at (codes "owner") d) (text_at (codes "query") d) machine.create_view),
          (
            (λ d. three_by (name_at (codes "on") d) (grantee_at d) (privileges_at d) granting grant_by),
            (
              (λ d. three_by (name_at (codes "on") d) (grantee_at d) (privileges_at d) granting revoke_by),
              (
                (λ d. two_by (group_at (codes "role") d) (name_at (codes "to") d) membership grant_role_by),
                (
                  (λ d. two_by (group_at (codes "role") d) (name_at (codes "to") d) membership revoke_role_by),
                  (
                    (λ d. three (name_at (codes "on") d) (bool_at (codes "enable") d) (bool_at (codes "force") d) machine.row_security),
                    (
                      (λ d. policy_by (restrictive_at d) (policy_command_at d) (grantees_at d) (name_at (codes "on") d) (name_at (codes "name") d) (text_if_at (codes "using") d) (text_if_at (codes "check") d)),
                      (
                        (λ d. two (name_at (codes "on") d) (name_at (codes "name") d) machine.drop_policy),
                        (
                          (λ d. one (entries_at d) machine.write),
                          (
                            (λ d. one (name_at (codes "on") d) machine.subscribe),
                            (
                              (λ d. one (option_and_then positive_of (get (codes "sub") d)) machine.unsubscribe),
                              tt,
                            ),
                          ),
                        ),
                      ),
                    ),
                  ),
                ),
              ),
            ),
          ),
        ),
      ),
    ),
  ),
)

pub Decides-form_of : (text : List ℕ) (f : Form) → form_of text ≡ Some f → Decides f
Decides-form_of text f h = found_has Decides (λ g. bytes_eq g.text text) forms f all_decide h
