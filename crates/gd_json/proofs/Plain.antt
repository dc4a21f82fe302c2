-- Data that nests little and has no float: what was put together of such data is such again.
use Rattle.std.proofs.Common.{◌≡◌, ℕ, suc, ◌≤◌, Bool, true, false, ◌||◌, List, [], ◌∷◌, Option, Some, None, refl, arith}
use Rattle.std.specs.Prelude.{IfSome}
use Rattle.std.specs.declared.cmp.Ordering.{Ordering}
use Rattle.std.specs.declared.cmp.Ordering.TheVariants.{Less, Equal, Greater}
use Rattle.std.specs.Ordering.{nat_cmp, match_ordering}
use Rattle.std.specs.Cmp.Lexicographic.{slice_cmp}
use Rattle.serde_json.specs.Data.{Data, Items, Members, object, array, string, no_items, no_members, member, put, depth, items_depth, members_depth}
use Rattle.serde_json.specs.Written.{has_float, items_have_float, members_have_float}
use Rattle.gd_json.specs.Writing.{put_optional, only, listed}

pub record IsPlain (n : ℕ) (d : Data) : Type 0 where
  pub shallow : depth d ≤ n
  pub exact : has_float d ≡ false

pub record ArePlain (n : ℕ) (ms : Members) : Type 0 where
  pub shallow : members_depth ms ≤ n
  pub exact : members_have_float ms ≡ false

pub record AreAllPlain (n : ℕ) (ds : Items) : Type 0 where
  pub shallow : items_depth ds ≤ n
  pub exact : items_have_float ds ≡ false

first_false : (x y : Bool) → (x || y) ≡ false → x ≡ false
first_false true y e = e
first_false false y e = refl

second_false : (x y : Bool) → (x || y) ≡ false → y ≡ false
second_false true y e = absurd cc
second_false false y e = e

pub string_plain : (n : ℕ) (s : List ℕ) → IsPlain n (string s)
string_plain n s = record { shallow = omega arith; exact = refl }

pub none_plain : (n : ℕ) → ArePlain n no_members
none_plain n = record { shallow = omega arith; exact = refl }

more_plain : (n : ℕ) (k : List ℕ) (d : Data) (ms : Members) → IsPlain n d → ArePlain n ms → ArePlain n (member k d ms)
more_plain n k d ms here more = record { shallow = omega (arith, here.shallow, more.shallow); exact = rw (here.exact, more.exact) refl }

head_plain : (n : ℕ) (k : List ℕ) (d : Data) (ms : Members) → ArePlain n (member k d ms) → IsPlain n d
head_plain n k d ms all = record { shallow = omega (arith, all.shallow); exact = first_false _ _ all.exact }

tail_plain : (n : ℕ) (k : List ℕ) (d : Data) (ms : Members) → ArePlain n (member k d ms) → ArePlain n ms
tail_plain n k d ms all = record { shallow = omega (arith, all.shallow); exact = second_false (has_float d) _ all.exact }

ordered_plain : (o : Ordering) (n : ℕ) (a b c : Members) → ArePlain n a → ArePlain n b → ArePlain n c → ArePlain n (match_ordering o a b c)
ordered_plain Less n a b c p q r = p
ordered_plain Equal n a b c p q r = q
ordered_plain Greater n a b c p q r = r

pub put_plain : (n : ℕ) (k : List ℕ) (d : Data) (ms : Members) → IsPlain n d → ArePlain n ms → ArePlain n (put k d ms)
put_plain n k d no_members here more = more_plain n k d no_members here more
put_plain n k d (member l e ms) here more =
    let head = head_plain n l e ms more in
    let tail = tail_plain n l e ms more in
    ordered_plain (slice_cmp nat_cmp k l) n _ _ _ (more_plain n k d (member l e ms) here more) (more_plain n l d ms here tail)
    (more_plain n l e (put k d ms) head (put_plain n k d ms here tail))

pub put_optional_plain : (n : ℕ) (k : List ℕ) (o : Option Data) (ms : Members) → IfSome o (IsPlain n) → ArePlain n ms → ArePlain n (put_optional k o ms)
put_optional_plain n k None ms here more = more
put_optional_plain n k (Some d) ms here more = put_plain n k d ms here more

pub object_plain : (n : ℕ) (ms : Members) → ArePlain n ms → IsPlain (suc n) (object ms)
object_plain n ms more = record { shallow = omega (arith, more.shallow); exact = more.exact }

pub only_plain : (n : ℕ) (k : List ℕ) (d : Data) → IsPlain n d → IsPlain (suc n) (only k d)
only_plain n k d here = object_plain n _ (put_plain n k d no_members here (none_plain n))

pub listed_plain : {A : Type 0} (n : ℕ) (f : A → Data) (xs : List A) → ((x : A) → IsPlain n (f x)) → AreAllPlain n (listed f xs no_items)
listed_plain n f [] each = record { shallow = omega arith; exact = refl }
listed_plain n f (x ∷ xs) each =
    let here = each x in
    let more = listed_plain n f xs each in
    record { shallow = omega (arith, here.shallow, more.shallow); exact = rw (here.exact, more.exact) refl }

pub array_plain : (n : ℕ) (ds : Items) → AreAllPlain n ds → IsPlain (suc n) (array ds)
array_plain n ds all = record { shallow = omega (arith, all.shallow); exact = all.exact }
