-- The end of a replay.
use Rattle.std.proofs.Common.{◌≡◌, ℕ, ◌≤◌, List, [], ◌++◌, length, Option, Some, None, Result, Ok, Err, refl, sym, ap, ◌∙◌, subst}
use Rattle.od_cli.specs.declared.line.Line.{Line}
use Rattle.od_cli.specs.Replays.{most_bytes, IsOutput, IsOutputOf, bad_line_of, Replays}
use Rattle.od_cli.specs.Runs.{Played}
use Rattle.od_cli.specs.Script.{script}

-- a script without a bad line
script-ok : (read : Result (List Line) ℕ) (text : List ℕ) → bad_line_of read ≡ None → IsOutputOf read text → (lines : List Line) × (read ≡ Ok lines) × Played lines text
script-ok (Ok lines) text none is = (lines, refl, is)
script-ok (Err number) text none is = absurd (cc none)

-- what was read was a script, and what a run of it prints was written
pub replays : (start end before after : Option (List ℕ)) (text slice made written_slice : List ℕ) (bad : Option ℕ) → length text ≤ most_bytes → ((left : List ℕ) → start ≡ Some left → (text ≡ left) × (end ≡ Some [])) → slice ≡ text
    → IsOutput slice made → bad ≡ bad_line_of (script slice) → bad ≡ None → written_slice ≡ made → ((old : List ℕ) → before ≡ Some old → after ≡ Some (old ++ written_slice)) → Replays start end before after
replays start end before after text slice made written_slice bad short all seen is bad_is none lent wrote = record {
  told = λ bytes written from to.
      let read = script-ok (script slice) made (sym bad_is ∙ none) is in
      let same : slice ≡ bytes = seen ∙ (all bytes from).0 in
      let Q : List ℕ → Type 0 = λ t. length t ≤ most_bytes in
      record {
        lines = read.0;
        output = made;
        is_script = ap script (sym same) ∙ read.1;
        short = subst Q (all bytes from).0 short;
        at_end = (all bytes from).1;
        played = read.2;
        printed = wrote written to ∙ ap (λ o. Some (written ++ o)) lent;
      };
}
