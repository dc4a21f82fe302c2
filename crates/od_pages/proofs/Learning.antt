-- Items are the drive's still where a file gets the digest that it has on the drive.
use Rattle.std.proofs.Common.{◌≡◌, ℕ, ◌^◌, ◌<◌, ◌≤◌, inl, inr, Bool, true, false, ◌&&◌, cond, nat_eq, List, [], ◌∷◌, map, Option, Some, None, refl, ap, sym, subst, ◌∙◌, arith}
use Rattle.std.proofs.lemmas.Bool.{and_parts, eqb-true}
use Rattle.std.specs.Cmp.Lexicographic.{pointwise, same_text}
use Rattle.std.specs.List.{All, AllByRecursion}
use Rattle.gd_names.proofs.Each.{each}
use Rattle.gd_item.specs.Answers.{bare_kind}
use Rattle.gd_item.specs.Inventory.{Inventory}
use Rattle.gd_item.specs.Records.{records_of}
use Rattle.gd_item.specs.Steps.{state_of, held_by, held_at, number_of}
use Rattle.gd_item.specs.Tokens.{token_text, token_of_text}
use Rattle.gd_item.specs.Views.{uncounted_kind, uncounted, IsItemOf, AreItemsOf, IsPulled, TokenIs, ItemsAre}
use Rattle.gd_item.specs.declared.digest.Digest.{Digest}
use Rattle.gd_item.specs.declared.id.ItemId.{ItemId}
use Rattle.gd_item.specs.declared.item.Item.{Item}
use Rattle.gd_item.specs.declared.item.Kind.{Kind}
use Rattle.gd_item.specs.declared.item.Kind.TheVariants.{Folder, File, Bare, Deleted}
use Rattle.gd_item.specs.declared.item.Tag.{Tag}
use Rattle.gd_item.specs.declared.step.Step.{Step}
use Rattle.gd_item.specs.declared.token.Token.{Token}
use Rattle.gd_item.proofs.ReadTokens.{token-read}
use Rattle.gd_item.proofs.Views.{held_at-now}
use Rattle.gd_laws.proofs.Logs.{epoch-fits, number-fits}
use Rattle.od_mirror.specs.Digests.{is_bare_kind, is_unknown, learned}
use Rattle.od_pages.specs.Pulls.{IsDigestThere, IsTokenNow}
use Rattle.od_pages.proofs.Shown.{same-id, same-etag}

is-bare : (kind : Kind) → is_bare_kind kind ≡ true → kind ≡ Bare
is-bare (Folder child_count) is = absurd (cc is)
is-bare (File digest) is = absurd (cc is)
is-bare Bare is = refl
is-bare Deleted is = absurd (cc is)

module _ (plain : Bool) (id : ItemId) (etag : Tag) (digest : Digest) where
  abbrev IsRight : Item → Type 0
  IsRight whole = whole.id ≡ id → whole.etag ≡ etag → whole.kind ≡ File digest

  now-known : (item whole : Item) → item.kind ≡ Bare → whole.kind ≡ File digest → IsItemOf plain item whole
      → let new : Item = record item { kind = File digest } in IsItemOf plain new whole
  now-known item whole bare is (inl same) =
      let kinds : uncounted_kind item.kind ≡ uncounted_kind whole.kind = ap (λ (i : Item). i.kind) same in
      absurd (let both : Bare ≡ File digest = sym (ap uncounted_kind bare) ∙ kinds ∙ ap uncounted_kind is in cc both)
  now-known item whole bare is (inr lacks) =
      inr (
        lacks.0,
        record {
          rest = ap (λ (kind : Kind). let new : Item = record item { ctag = None; kind = bare_kind (uncounted_kind kind) } in new) (sym bare) ∙ lacks.1.rest;
          kind = inl (sym (ap uncounted_kind is));
          ctag = lacks.1.ctag;
        },
      )

  known-by : (b : Bool) (item whole : Item) → is_unknown id etag item ≡ b → IsRight whole → IsItemOf plain item whole
      → let new : Item = record item { kind = File digest } in IsItemOf plain (cond b new item) whole
  known-by true item whole unknown right is =
      let parts = and_parts (is_bare_kind item.kind) (nat_eq item.id.0 id.0 && pointwise nat_eq item.etag.0 etag.0) unknown in
      let more = and_parts (nat_eq item.id.0 id.0) (pointwise nat_eq item.etag.0 etag.0) parts.1 in
      let ids : item.id ≡ id = ap (λ (number : ℕ). let i : ItemId = record { 0 = number } in i) (eqb-true item.id.0 id.0 more.0) in
      let tags : item.etag ≡ etag = ap (λ (text : List ℕ). let tag : Tag = record { 0 = text } in tag) (same_text item.etag.0 etag.0 (sym more.1)) in
      now-known item whole (is-bare item.kind parts.0) (right (sym (same-id plain item whole is) ∙ ids) (sym (same-etag plain item whole is) ∙ tags)) is
  known-by false item whole unknown right is = is

  learned-are : (items records : List Item) → AllByRecursion IsRight records → AreItemsOf plain items records → AreItemsOf plain (map (learned id etag digest) items) records
  learned-are [] [] right are = tt
  learned-are [] (whole ∷ records) right are = absurd are
  learned-are (item ∷ items) [] right are = absurd are
  learned-are (item ∷ items) (whole ∷ records) right are =
      (known-by (is_unknown id etag item) item whole refl right.0 are.0, learned-are items records right.1 are.1)

module _ (log : List Step) (items : List Item) (id : ItemId) (etag : Tag) (digest : Digest) (there : IsDigestThere log id etag digest) where
  learned-pulled : (token : Token) → token.position ≡ number_of log → IsPulled items token log → IsPulled (map (learned id etag digest) items) token log
  learned-pulled token now pulled =
      let same : held_at token.position log ≡ held_by log = ap (λ n. held_at n log) now ∙ held_at-now log in
      record {
        epoch = pulled.epoch;
        start = pulled.start;
        position = pulled.position;
        items_then =
            learned-are (state_of log).plain id etag digest items (records_of (held_at token.position log))
            (subst (λ (held : Inventory). AllByRecursion (IsRight (state_of log).plain id etag digest) (records_of held)) (sym same) (each (IsRight (state_of log).plain id etag digest) (records_of (held_by log)) there))
            pulled.items_then;
      }

  pub learned-sound : (text : List ℕ) → IsTokenNow log text → ItemsAre items log (Some text) → ItemsAre (map (learned id etag digest) items) log (Some text)
  learned-sound text now are =
      let fits : number_of log < 2 ^ 64 = number-fits log in
      let low : now.start ≤ number_of log = now.low in
      let read : token_of_text text ≡ Some (record { epoch = (state_of log).epoch; position = number_of log; start = now.start }) =
      ap token_of_text now.is ∙ token-read (record { epoch = (state_of log).epoch; position = number_of log; start = now.start }) (epoch-fits log) fits (omega (arith, low, fits)) in
      subst (TokenIs (map (learned id etag digest) items) log) (sym read)
      (learned-pulled (record { epoch = (state_of log).epoch; position = number_of log; start = now.start }) refl (subst (TokenIs items log) read are))
