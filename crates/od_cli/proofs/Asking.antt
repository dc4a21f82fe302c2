-- Another client's request, and what it prints.
use Rattle.std.proofs.Common.{◌≡◌, ℕ, List, ◌++◌, Some, None, Result, Ok, Err, OnOk, sym, ap, ◌∙◌, append-nil}
use Rattle.gd_item.specs.Answers.{answer}
use Rattle.gd_item.specs.Sessions.{held}
use Rattle.gd_item.specs.Steps.{state_of}
use Rattle.gd_item.specs.declared.reply.Reply.{Reply}
use Rattle.gd_item.specs.declared.request.Request.{Request}
use Rattle.gd_item.specs.declared.step.Step.{Step}
use Rattle.od_cli.specs.Played.{reply_text, request_of, request_text, request_steps, line_steps, line_text}
use Rattle.od_cli.specs.Plays.{IsAsked, Plays}
use Rattle.od_cli.specs.Worlds.{WorldValue, with_other}
use Rattle.od_cli.specs.declared.line.Line.{Line}

-- the request was asked, and its refusal printed
pub asked : (before after : WorldValue) (old new : List ℕ) (request : Request) (reply : Reply) → reply ≡ answer (state_of before.log) before.size request
    → after ≡ record before { log = with_other before.log request } → new ≡ old ++ reply_text reply → IsAsked before after old new request
asked before after old new request reply is world printed =
    record { world = world; printed = printed ∙ ap (λ r. old ++ reply_text r) is }

-- a line whose request was asked was played
pub plays : (before after : WorldValue) (old new : List ℕ) (line : Line) (request : Request) → line_text before.log before.size line ≡ request_text (state_of before.log) before.size (request_of (held (state_of before.log)) line)
    → line_steps before.log before.size line ≡ request_steps (request_of (held (state_of before.log)) line) → request_of (held (state_of before.log)) line ≡ Some request → IsAsked before after old new request → Plays before after old new line
plays before after old new line request text steps is asked = record {
  world =
      let at : List Step → WorldValue = λ more. record before { log = before.log ++ more } in
      asked.world ∙ ap at (sym (steps ∙ ap request_steps is));
  printed = asked.printed ∙ sym (ap (λ t. old ++ t) (text ∙ ap (request_text (state_of before.log) before.size) is));
}

-- a move whose new folder is missing is refused, and no step
pub no-folder : (world : WorldValue) (old new : List ℕ) (line : Line) → line_text world.log world.size line ≡ request_text (state_of world.log) world.size (request_of (held (state_of world.log)) line)
    → line_steps world.log world.size line ≡ request_steps (request_of (held (state_of world.log)) line) → request_of (held (state_of world.log)) line ≡ None
    → new ≡ old ++ request_text (state_of world.log) world.size None → Plays world world old new line
no-folder world old new line text steps is printed = record {
  world =
      let at : List Step → WorldValue = λ l. record world { log = l } in
      ap at (sym (append-nil world.log) ∙ ap (λ (more : List Step). world.log ++ more) (sym (steps ∙ ap request_steps is)));
  printed = printed ∙ sym (ap (λ t. old ++ t) (text ∙ ap (request_text (state_of world.log) world.size) is));
}

-- what follows from an answer that is Ok
pub ok-gives : {T E : Type 0} (result : Result T E) (P Q : Type 0) → OnOk result P → (P → Q) → OnOk result Q
ok-gives (Ok x) P Q ok gives = gives ok
ok-gives (Err e) P Q ok gives = tt

pub ok-both : {T E : Type 0} (result : Result T E) (P Q R : Type 0) → OnOk result P → OnOk result Q → (P → Q → R) → OnOk result R
ok-both (Ok x) P Q R first second gives = gives first second
ok-both (Err e) P Q R first second gives = tt
