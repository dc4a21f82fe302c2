-- A row as the values of its columns, in the order in which the statements name them.
use Rattle.std.specs.Prelude.{◌≡◌, List, [], ◌∷◌}
use Rattle.sqlite.specs.Values.{or_null}
use Rattle.sqlite_value.specs.Order.{column}
use Rattle.sqlite_value.specs.declared.value.Value.{Value}
use Rattle.sqlite_value.specs.declared.value.Value.TheVariants.{Int, Text, Blob}
use Rattle.od_database.specs.declared.agreement.AgreementRow.{AgreementRow}
use Rattle.od_database.specs.declared.entry.EntryRow.{EntryRow}

-- what is bound for a row
abbrev pub entry_values : EntryRow → List Value
entry_values row =
    Int row.id ∷ or_null Int row.parent ∷ Text row.name ∷ Int row.size ∷ Text row.etag ∷ or_null Text row.ctag ∷ Int row.kind
    ∷ or_null Blob row.digest ∷ []

abbrev pub agreement_values : AgreementRow → List Value
agreement_values row = Text row.path ∷ Int row.kind ∷ or_null Blob row.digest ∷ or_null Blob row.flight ∷ []

-- what the values of an answer are read as
pub record IsEntry (values : List Value) (row : EntryRow) : Type 0 where
  pub id : column values 0 ≡ Int row.id
  pub parent : column values 1 ≡ or_null Int row.parent
  pub name : column values 2 ≡ Text row.name
  pub size : column values 3 ≡ Int row.size
  pub etag : column values 4 ≡ Text row.etag
  pub ctag : column values 5 ≡ or_null Text row.ctag
  pub kind : column values 6 ≡ Int row.kind
  pub digest : column values 7 ≡ or_null Blob row.digest

pub record IsAgreement (values : List Value) (row : AgreementRow) : Type 0 where
  pub path : column values 0 ≡ Text row.path
  pub kind : column values 1 ≡ Int row.kind
  pub digest : column values 2 ≡ or_null Blob row.digest
  pub flight : column values 3 ≡ or_null Blob row.flight
