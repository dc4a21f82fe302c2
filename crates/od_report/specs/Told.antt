-- What telling an event does to a listener, and to listeners in their order.
use Rattle.std.specs.Prelude.{◌≡◌, ℕ, ◌+◌, ◌-◌, ◌^◌, ◌<◌, min, List, [], ◌∷◌, ◌++◌, length, take, drop, Option}
use Rattle.std.specs.List.{AllZip}
use Rattle.std.specs.Option.{option_map}
use Rattle.od_report.specs.declared.event.Event.{Event}

-- the event is the last of the kept ones, where they are kept, and the count is one higher or at its last value
pub record Told (event : Event) (list_before list_after : Option (List Event)) (before after : ℕ) : Type 0 where
  pub list : list_after ≡ option_map (λ events. events ++ event ∷ []) list_before
  pub count : after ≡ min (before + 1) (2 ^ 64 - 1)

-- nothing was told
pub record IsKept (list_before list_after : Option (List Event)) (before after : ℕ) : Type 0 where
  pub list : list_after ≡ list_before
  pub count : after ≡ before

-- the first of these were changed so, and the one at which it stopped and those after it stayed so
pub record Stopped {A : Type 0} (Changed Same : A → A → Type 0) (before after : List A) : Type 0 where
  pub at : ℕ
  pub there : at < length before
  pub changed : AllZip Changed (take at before) (take at after)
  pub same : AllZip Same (drop at before) (drop at after)
