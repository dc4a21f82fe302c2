-- What stands among members that were put one after another.
use Rattle.std.proofs.Common.{◌≡◌, ℕ, List, Option, Some, None, refl, sym, ap, subst, ◌∙◌}
use Rattle.std.specs.declared.cmp.Ordering.{Ordering}
use Rattle.std.specs.declared.cmp.Ordering.TheVariants.{Less, Equal, Greater}
use Rattle.std.specs.Ordering.{nat_cmp, match_ordering, is_eq}
use Rattle.std.specs.Cmp.Lexicographic.{slice_cmp}
use Rattle.serde_json.specs.Data.{Data, Members, put}
use Rattle.serde_json.specs.Find.{get_member}
use Rattle.serde_json.proofs.Views.{get_member-put, get_member-put_other}
use Rattle.std.proofs.lemmas.Cmp.{nat_list_cmp_total, tied_itself}
use Rattle.std.proofs.lemmas.Map.Text.{is_eq-slice_cmp}
use Rattle.std.proofs.lemmas.Slice.Eq.{bytes_eq-Decides}
use Rattle.gd_json.specs.Writing.{put_optional}

equal_itself : (xs : List ℕ) → slice_cmp nat_cmp xs xs ≡ Equal
equal_itself xs = tied_itself nat_list_cmp_total xs

tied : (xs ys : List ℕ) → slice_cmp nat_cmp xs ys ≡ Equal → xs ≡ ys
tied xs ys e = (bytes_eq-Decides xs ys).0 (sym (is_eq-slice_cmp xs ys) ∙ ap is_eq e)

put_by : (o : Ordering) (q k : List ℕ) (d : Data) (ms : Members) → slice_cmp nat_cmp q k ≡ o → get_member q (put k d ms) ≡ match_ordering o (get_member q ms) (Some d) (get_member q ms)
put_by Less q k d ms e = get_member-put_other q k d ms (λ same. let back : slice_cmp nat_cmp q k ≡ Equal = ap (slice_cmp nat_cmp q) (sym same) ∙ equal_itself q in cc)
put_by Equal q k d ms e = subst (λ (n : List ℕ). get_member q (put n d ms) ≡ Some d) (tied q k e) (get_member-put q d ms)
put_by Greater q k d ms e = get_member-put_other q k d ms (λ same. let back : slice_cmp nat_cmp q k ≡ Equal = ap (slice_cmp nat_cmp q) (sym same) ∙ equal_itself q in cc)

pub get_put : (q k : List ℕ) (d : Data) (ms : Members) → get_member q (put k d ms) ≡ match_ordering (slice_cmp nat_cmp q k) (get_member q ms) (Some d) (get_member q ms)
get_put q k d ms = put_by (slice_cmp nat_cmp q k) q k d ms refl

abbrev pub or_else : Option Data → Option Data → Option Data
or_else None other = other
or_else (Some d) other = Some d

same_thrice : (o : Ordering) (a : Option Data) → a ≡ match_ordering o a a a
same_thrice Less a = refl
same_thrice Equal a = refl
same_thrice Greater a = refl

pub get_put_optional : (q k : List ℕ) (o : Option Data) (ms : Members) → get_member q (put_optional k o ms) ≡ match_ordering (slice_cmp nat_cmp q k) (get_member q ms) (or_else o (get_member q ms)) (get_member q ms)
get_put_optional q k None ms = same_thrice (slice_cmp nat_cmp q k) (get_member q ms)
get_put_optional q k (Some d) ms = get_put q k d ms

pub or_nothing : (o : Option Data) → or_else o None ≡ o
or_nothing None = refl
or_nothing (Some d) = refl
