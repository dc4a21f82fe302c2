-- How many items a folder has.
use Rattle.std.proofs.Common.{◌≡◌, ℕ, ◌<◌, ◌≤◌, List, length, filter, count_by, Bool, nat_eq, ap, arith}
use Rattle.std.proofs.lemmas.List.{length-map}
use Rattle.std.proofs.lemmas.List.Sums.{length-filter, count_by-le-length}
use Rattle.gd_item.specs.declared.live.LiveItem.{LiveItem}
use Rattle.gd_names.specs.declared.conflict.Sibling.{Sibling}
use Rattle.gd_item.specs.Refusals.{siblings_in, sibling_of}

siblings-le : (parent : ℕ) (items : List LiveItem) → length (siblings_in parent items) ≤ length items
siblings-le parent items =
    let p : LiveItem → Bool = λ item. nat_eq item.parent parent in
    let a : length (siblings_in parent items) ≡ length (filter p items) = length-map (filter p items) sibling_of in
    let b : length (filter p items) ≡ count_by p items = length-filter p items in
    let c : count_by p items ≤ length items = count_by-le-length p items in
    omega arith

-- the siblings in a folder are no more than all items
pub siblings-few : (parent most : ℕ) (items seen : List LiveItem) (found : List Sibling) → found ≡ siblings_in parent seen → seen ≡ items → length items < most → length found < most
siblings-few parent most items seen found are same few =
    let le : length (siblings_in parent seen) ≤ length seen = siblings-le parent seen in
    let a : length found ≡ length (siblings_in parent seen) = ap length are in
    let b : length seen ≡ length items = ap length same in
    omega arith
