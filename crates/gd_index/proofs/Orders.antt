-- Orders that tell all keys apart, and what stands at a key after another one was put.
use Rattle.std.proofs.Common.{◌≡◌, ℕ, ◌⊎◌, inl, inr, true, false, cond, List, Option, refl, ap, sym, ◌∙◌}
use Rattle.std.specs.Cmp.{IsTotalOrder, nat_cmp_total, on_total, then_total}
use Rattle.std.specs.Cmp.Lexicographic.{slice_cmp, nat_list_cmp_total}
use Rattle.std.specs.Ordering.{nat_cmp, is_eq}
use Rattle.std.specs.declared.cmp.Ordering.{Ordering}
use Rattle.std.specs.declared.cmp.Ordering.TheVariants.{Less, Equal, Greater}
use Rattle.std.proofs.lemmas.Cmp.{tied_itself}
use Rattle.std.proofs.lemmas.Map.Lookups.{exact_unsigned, exact_bytes, exact_pairs}
use Rattle.gd_index.specs.Indexed.{at, spot_cmp, Puts}

pub record IsOrder {K : Type 0} (R : K → K → Ordering) : Type 0 where
  pub total : IsTotalOrder R
  pub exact : (a b : K) → R a b ≡ Equal → a ≡ b

pub numbers : IsOrder nat_cmp
numbers = record { total = nat_cmp_total; exact = exact_unsigned }

pub spots : IsOrder spot_cmp
spots = record {
  total = then_total (on_total (λ (s : ℕ × List ℕ). s.0) nat_cmp_total) (on_total (λ (s : ℕ × List ℕ). s.1) nat_list_cmp_total);
  exact = exact_pairs nat_cmp (slice_cmp nat_cmp) exact_unsigned exact_bytes;
}

module _ {K : Type 0} {R : K → K → Ordering} (order : IsOrder R) where
  told-by : (a b : K) (o : Ordering) → R a b ≡ o → (a ≡ b) ⊎ (is_eq o ≡ false)
  told-by a b Less is = inr refl
  told-by a b Equal is = inl (order.exact a b is)
  told-by a b Greater is = inr refl

  -- two keys are one or are told apart
  pub told : (a b : K) → (a ≡ b) ⊎ (is_eq (R a b) ≡ false)
  told a b = told-by a b (R a b) refl

  pub never-apart : (a b : K) → a ≡ b → is_eq (R a b) ≡ false → ⊥
  never-apart a b same apart =
      let tied : R a b ≡ Equal = ap (λ (k : K). R a k) (sym same) ∙ tied_itself order.total a in
      let is : true ≡ false = ap is_eq (sym tied) ∙ apart in
      absurd (cc is)

  pub put-other : {X : Type 0} (key k : K) (value : Option X) (old new : List (K × X)) → Puts R key value old new → is_eq (R key k) ≡ false → at R new k ≡ at R old k
  put-other key k value old new put apart = put.each k ∙ ap (λ b. cond b value (at R old k)) apart
