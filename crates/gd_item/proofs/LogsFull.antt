-- A drive whose kept bytes reach their limit by puts of one file.
use Rattle.std.proofs.Common.{◌≡◌, ℕ, ◌+◌, ◌-◌, ◌*◌, ◌^◌, ◌<◌, ◌≤◌, zero, suc, Bool, true, false, not, ◌||◌, cond, nat_lt, List, [], ◌∷◌, ◌++◌, length, replicate, codes, is_some, Option, Some, None, refl, sym, ap, ◌∙◌, subst, arith}
use Rattle.std.proofs.lemmas.Bool.{ltb-true}
use Rattle.gd_names.specs.Causes.{first_cause}
use Rattle.gd_names.specs.Names.{name_fault}
use Rattle.gd_names.specs.declared.conflict.Conflict.TheVariants.{Replace}
use Rattle.gd_item.specs.Answers.{answer_of, refused}
use Rattle.gd_item.specs.DriveLogs.{other, put_at, putting_log}
use Rattle.gd_item.specs.Inventory.{Inventory, new_drive, inventory, after, PutOver}
use Rattle.gd_item.specs.Nodes.{is_folder}
use Rattle.gd_item.specs.Refusals.{is_there, settled_in, is_refuse, is_met, is_too_long, settled_path, live_named, put_refusal, put_effect}
use Rattle.gd_item.specs.Refused.{Refusal, refuse, refusal, by_store, at_target}
use Rattle.gd_item.specs.Sessions.{State, Session, new_state, held, held_bytes}
use Rattle.gd_item.specs.Steps.{effects_at, effects_of, after_step, after_steps, state_of, number_of}
use Rattle.gd_item.specs.Targets.{place_of}
use Rattle.gd_item.specs.Trees.{nodes_of}
use Rattle.gd_item.specs.declared.condition.Condition.TheVariants.{Free}
use Rattle.gd_item.specs.declared.fault.ErrorCode.TheVariants.{InvalidRequest, QuotaLimitReached}
use Rattle.gd_item.specs.declared.fault.StoreFault.{StoreFault}
use Rattle.gd_item.specs.declared.fault.StoreFault.TheVariants.{NotFound, NotFolder, BadName, Modified, NameTaken, PathTooLong, Quota}
use Rattle.gd_item.specs.declared.live.Version.{Version}
use Rattle.gd_item.specs.declared.request.Address.TheVariants.{ByPath}
use Rattle.gd_item.specs.declared.request.Request.{Request}
use Rattle.gd_item.proofs.Effects.{inventory-snoc}
use Rattle.gd_item.proofs.LogsFragments.{after-accepted, answer-refused}

-- the request of the log
abbrev the_put : List ℕ → Request
the_put bytes = put_at (codes "f" ∷ []) bytes

-- what the drive holds after some of its puts
abbrev filled : List ℕ → ℕ → ℕ → List Version → Inventory
filled bytes number kept replaced = record {
  number = number;
  next = 3;
  items = record { number = 2; parent = 1; name = codes "f"; bytes = Some bytes; change = number; content = number } ∷ [];
  removed = [];
  replaced = replaced;
  kept = kept;
}

record IsFilled (bytes : List ℕ) (times : ℕ) (state : State) : Type 0 where
  number : ℕ
  kept : ℕ
  replaced : List Version
  holds : held state ≡ filled bytes number kept replaced
  sessions : state.sessions ≡ []
  counted : number ≡ times + 1
  summed : kept ≡ times * 4194304

-- why the put is refused, from whether it passes a limit
abbrev refused_if : Inventory → Bool → Option StoreFault
refused_if held over =
    let settle = settled_in held 1 (codes "f") Replace false in
    first_cause (
    (not (is_there 1 (nodes_of held)), NotFound)
    ∷ (not (is_folder 1 (nodes_of held)), NotFolder)
    ∷ (is_some (name_fault (codes "f")), BadName)
    ∷ (not (is_met Free (live_named 1 (codes "f") held.items)), Modified)
    ∷ (is_refuse settle, NameTaken)
    ∷ (is_too_long (settled_path held 1 settle), PathTooLong)
    ∷ (over, Quota)
    ∷ [])

not-lt : (a b : ℕ) → b ≤ a → nat_lt a b ≡ false
not-lt a b le = by (nat_lt a b) refl
  where
    by : (t : Bool) → nat_lt a b ≡ t → t ≡ false
    by true is = absurd (let lt : a < b = ltb-true a b is in omega (arith, le))
    by false is = refl

-- the refusal of a put, from what the drive and its sessions hold
abbrev refusal_by : List (List ℕ) → List ℕ → Inventory → List Session → ℕ → Option Refusal
refusal_by path bytes held sessions long =
    cond (nat_lt 4194304 long) (Some (refuse 413 InvalidRequest))
    (by_store (at_target (λ place. put_refusal held place bytes Replace Free (held_bytes sessions)) (place_of held (ByPath path))))

refusal-by : (path : List (List ℕ)) (bytes : List ℕ) (state : State) (drive : Inventory) (long : ℕ) → held state ≡ drive → state.sessions ≡ [] → length bytes ≡ long
    → refusal state (put_at path bytes) ≡ refusal_by path bytes drive [] long
refusal-by path bytes state drive long is_held is_sessions is_long =
    ap (λ h. refusal_by path bytes h state.sessions (length bytes)) is_held
    ∙ ap (λ s. refusal_by path bytes drive s (length bytes)) is_sessions ∙ ap (refusal_by path bytes drive []) is_long

-- no limit is passed before the last put
within : (number kept long : ℕ) (items : ℕ) → items ≤ 100000 → number ≤ 129 → kept + long ≤ 536870912
    → (nat_lt 100000 items || nat_lt (2 ^ 64 - 1) (number + 1) || nat_lt 536870912 (kept + long)) ≡ false
within number kept long items few low small =
    ap (λ b. b || nat_lt (2 ^ 64 - 1) (number + 1) || nat_lt 536870912 (kept + long)) (not-lt 100000 items few)
    ∙ ap (λ b. false || b || nat_lt 536870912 (kept + long)) (not-lt (2 ^ 64 - 1) (number + 1) (omega (arith, low)))
    ∙ ap (λ b. false || false || b) (not-lt 536870912 (kept + long) small)

first-taken : (bytes : List ℕ) → length bytes ≡ 4194304 → refusal new_state (the_put bytes) ≡ None
first-taken bytes long =
    refusal-by (codes "f" ∷ []) bytes new_state new_drive 4194304 refl refl long
    ∙ ap (λ b. by_store (refused_if new_drive b)) (within 1 0 (length bytes + 0) 2 (omega arith) (omega arith) (omega (arith, long)))

filled-first : (bytes : List ℕ) → length bytes ≡ 4194304 → IsFilled bytes 1 (after_step new_state (other (the_put bytes)))
filled-first bytes long =
    subst (IsFilled bytes 1) (sym (after-accepted new_state (the_put bytes) (first-taken bytes long)))
    (record {
      number = 2;
      kept = 0 + length bytes;
      replaced = [];
      holds = refl;
      sessions = refl;
      counted = refl;
      summed = omega (arith, long);
    })

next-taken : (bytes : List ℕ) (times : ℕ) (state : State) → length bytes ≡ 4194304 → times < 128 → (full : IsFilled bytes times state) → refusal state (the_put bytes) ≡ None
next-taken bytes times state long less full =
    refusal-by (codes "f" ∷ []) bytes state (filled bytes full.number full.kept full.replaced) 4194304 full.holds full.sessions long
    ∙ ap (λ b. by_store (refused_if (filled bytes full.number full.kept full.replaced) b))
    (within full.number full.kept (length bytes + 0) 2 (omega arith) (omega (arith, full.counted, less)) (omega (arith, full.summed, less, long)))

effect-by : (bytes : List ℕ) (state : State) (drive : Inventory) → held state ≡ drive
    → effects_of state (the_put bytes) ≡ effects_at (λ place. put_effect drive place bytes Replace ∷ []) (place_of drive (ByPath (codes "f" ∷ [])))
effect-by bytes state drive is = ap (λ h. effects_at (λ place. put_effect h place bytes Replace ∷ []) (place_of h (ByPath (codes "f" ∷ [])))) is

filled-next : (bytes : List ℕ) (times : ℕ) (state : State) → length bytes ≡ 4194304 → times < 128 → IsFilled bytes times state → IsFilled bytes (times + 1) (after_step state (other (the_put bytes)))
filled-next bytes times state long less full =
    let drive : Inventory = filled bytes full.number full.kept full.replaced in
    let made : effects_of state (the_put bytes) ≡ PutOver 2 bytes ∷ [] = effect-by bytes state (filled bytes full.number full.kept full.replaced) full.holds in
    subst (IsFilled bytes (times + 1)) (sym (after-accepted state (the_put bytes) (next-taken bytes times state long less full)))
    (record {
      number = full.number + 1;
      kept = full.kept + length bytes;
      replaced = full.replaced ++ record { item = 2; content = full.number; bytes = bytes } ∷ [];
      holds = ap (λ es. inventory (state.effects ++ es)) made ∙ inventory-snoc state.effects (PutOver 2 bytes) ∙ ap (λ h. after h (PutOver 2 bytes)) full.holds;
      sessions = full.sessions;
      counted = omega (arith, full.counted);
      summed = omega (arith, full.summed, long);
    })

filled-times : (bytes : List ℕ) (more times : ℕ) (state : State) → length bytes ≡ 4194304 → times + more ≤ 128 → IsFilled bytes times state
    → IsFilled bytes (times + more) (after_steps state (replicate more (other (the_put bytes))))
filled-times bytes zero times state long within full = let same : times ≡ times + 0 = omega arith in subst (λ n. IsFilled bytes n state) same full
filled-times bytes (suc more) times state long within full =
    let next = filled-next bytes times state long (omega (arith, within)) full in
    let same : times + 1 + more ≡ times + suc more = omega arith in
    subst (λ n. IsFilled bytes n (after_steps (after_step state (other (the_put bytes))) (replicate more (other (the_put bytes))))) same
    (filled-times bytes more (times + 1) (after_step state (other (the_put bytes))) long (omega (arith, within)) next)

all-filled : (bytes : List ℕ) → length bytes ≡ 4194304 → IsFilled bytes 128 (state_of (putting_log 128 bytes))
all-filled bytes long = filled-times bytes 127 1 (after_step new_state (other (the_put bytes))) long (omega arith) (filled-first bytes long)

pub filled-number : (bytes : List ℕ) → length bytes ≡ 4194304 → number_of (putting_log 128 bytes) ≡ 129
filled-number bytes long =
    let full = all-filled bytes long in
    ap (λ h. h.number) full.holds ∙ full.counted

filled-held : (bytes : List ℕ) (state : State) → IsFilled bytes 128 state → (replaced : List Version) × (held state ≡ filled bytes 129 536870912 replaced)
filled-held bytes state full =
    (full.replaced, full.holds ∙ ap (λ n. filled bytes n full.kept full.replaced) full.counted ∙ ap (λ k. filled bytes 129 k full.replaced) full.summed)

pub filled-answer : (bytes : List ℕ) → length bytes ≡ 4194304
    → answer_of (putting_log 128 bytes) 200 (put_at (codes "g" ∷ []) (codes "x")) ≡ refused (refuse 507 QuotaLimitReached)
filled-answer bytes long =
    let full = all-filled bytes long in
    let drive = filled-held bytes (state_of (putting_log 128 bytes)) full in
    answer-refused (state_of (putting_log 128 bytes)) 200 (put_at (codes "g" ∷ []) (codes "x")) (refuse 507 QuotaLimitReached)
    (refusal-by (codes "g" ∷ []) (codes "x") (state_of (putting_log 128 bytes)) (filled bytes 129 536870912 drive.0) 1 drive.1 full.sessions refl)
