use Rattle.std.proofs.Common.{refl}
use Rattle.od_database.proofs.laws.columns_are_read_back.Goals as goal

pub returns : goal.returns
returns c = record {
  entries = λ row. record { id = refl; parent = refl; name = refl; size = refl; etag = refl; ctag = refl; kind = refl; digest = refl };
  agreements = λ row. record { path = refl; kind = refl; digest = refl; flight = refl };
}
