-- What the machine is asked, and what it says. Names and texts are their bytes.
use Rattle.std.specs.Prelude.{ℕ, ℤ, Bool, List, Option}
use Rattle.iv_rows.specs.Cell.{Cell}
use Rattle.iv_rows.specs.Columns.{Column}
use Rattle.iv_bind.specs.BoundTexts.{Reason}
use Rattle.iv_access.specs.declared.privilege.Privilege.{Privilege}
use Rattle.iv_access.specs.declared.policy.PolicyCommand.{PolicyCommand}
use Rattle.iv_access.specs.declared.policy.Check.{Check}
use Rattle.iv_access.specs.Rights.{Name}
use Rattle.iv_machine.specs.declared.Cause.{Cause}

-- ---- commands

-- what an entry of a write does to its table; an update has the old row and the new one
pub data Op : Type 0 where
  insert : List Cell → Op
  delete : List Cell → Op
  update : List Cell → List Cell → Op

pub record Entry : Type 0 where
  pub rel : Name
  pub op : Op
  pub copies : ℕ

-- PostgreSQL 16, CREATE POLICY; if no role is named, it goes to PUBLIC
pub record PolicyText : Type 0 where
  pub rel : Name
  pub name : Name
  pub restrictive : Bool
  pub command : PolicyCommand
  pub to : List (Option Name)
  pub using_text : Option (List ℕ)
  pub check_text : Option (List ℕ)

-- a grant or revoke that names no role goes to PUBLIC; `to` becomes a member of a role, or ceases to be one
pub data Act : Type 0 where
  begin : (role : Name) → Act
  finish : Act
  create_role : (name : Name) → Act
  create_table : (name owner : Name) → (columns : List Column) → Act
  create_view : (name owner : Name) → (query : List ℕ) → Act
  grant : (rel : Name) → (privileges : List Privilege) → (to : Option Name) → Act
  revoke : (rel : Name) → (privileges : List Privilege) → (to : Option Name) → Act
  grant_role : (role to : Name) → Act
  revoke_role : (role to : Name) → Act
  row_security : (rel : Name) → (enable force : Bool) → Act
  create_policy : PolicyText → Act
  drop_policy : (rel name : Name) → Act
  subscribe : (rel : Name) → Act
  unsubscribe : (number : ℕ) → Act
  write : (entries : List Entry) → Act

pub record Command : Type 0 where
  pub session : ℕ
  pub act : Act

-- ---- lines

-- entries count from 1
pub data Refusal : Type 0 where
  no_session : Refusal
  session_in_use : Refusal
  unknown_role : Refusal
  name_taken : Refusal
  unknown_relation : Refusal
  not_a_table : Refusal
  bad_row : (entry : ℕ) → Refusal
  bad_query : (place : ℕ) → (why : Reason) → Refusal
  not_administrator : Refusal
  not_owner : (rel : Name) → Refusal
  missing_privilege : (privilege : Privilege) → (rel : Name) → Refusal
  no_permissive : (rel : Name) → (check : Check) → (entry : ℕ) → Refusal
  restrictive_failed : (policy rel : Name) → (check : Check) → (entry : ℕ) → Refusal
  no_such_row : (entry : ℕ) → Refusal
  limit : Refusal
  unknown_policy : Refusal
  unknown_subscription : Refusal
  too_many : Refusal
  membership_loop : Refusal

pub data Reply : Type 0 where
  done : Reply
  subscribed : (number : ℕ) → Reply
  refused : Refusal → Reply

pub data Line : Type 0 where
  reply : (session : ℕ) → Reply → Line
  change : (session number : ℕ) → (rows : List (List Cell × ℤ)) → Line
  ended : (session number : ℕ) → Cause → (rows : List (List Cell × ℤ)) → Line
