-- The reply that a call's result makes, and the name of the last item of a list.
use Rattle.std.specs.Prelude.{◌≡◌, ℕ, List, [], ◌∷◌, ◌++◌, Option, Some, None, Result, Ok, Err}
use Rattle.gd_item.specs.Answers.{refused, effect_reply, answer_unless}
use Rattle.gd_item.specs.Faults.{status_of, code_of, session_status_of, session_code_of}
use Rattle.gd_item.specs.Inventory.{Effect, inventory}
use Rattle.gd_item.specs.Refused.{refuse, refusal}
use Rattle.gd_item.specs.Sessions.{State}
use Rattle.gd_item.specs.declared.fault.SessionFault.{SessionFault}
use Rattle.gd_item.specs.declared.fault.StoreFault.{StoreFault}
use Rattle.gd_item.specs.declared.item.Item.{Item}
use Rattle.gd_item.specs.declared.reply.Reply.{Reply}
use Rattle.gd_item.specs.declared.reply.Reply.TheVariants.{Done}
use Rattle.gd_item.specs.declared.request.Request.{Request}
use Rattle.gd_store.specs.Stands.{StoreValue, Stands}

abbrev pub reply_of : Result Reply StoreFault → Reply
reply_of (Ok reply) = reply
reply_of (Err fault) = refused (refuse (status_of fault) (code_of fault))

abbrev pub session_reply_of : Result Reply SessionFault → Reply
session_reply_of (Ok reply) = reply
session_reply_of (Err fault) = refused (refuse (session_status_of fault) (session_code_of fault))

-- what a drive answers that is not plain
abbrev pub whole_answer : State → ℕ → Request → Reply
whole_answer state size request = answer_unless (refusal state request) state size request

abbrev pub last_item_name : List Item → Option (List ℕ)
last_item_name [] = None
last_item_name (item ∷ []) = Some item.name
last_item_name (item ∷ next ∷ items) = last_item_name (next ∷ items)

-- what a step of the store replies: the item that was made or changed; the store then stands for these effects too
pub record Steps (store : StoreValue) (epoch floor : ℕ) (log effects : List Effect) (reply : Reply) : Type 0 where
  pub replied : reply ≡ effect_reply (inventory log) (inventory (log ++ effects)) Done effects
  pub stands : Stands store (log ++ effects) epoch floor
