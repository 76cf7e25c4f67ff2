use Rattle.std.proofs.Common.{eqb, eqb-true}
use Rattle.std.proofs.lemmas.List.Quantifiers.{position-Some}
use Rattle.coding.specs.Manchester.{code_table}
use Rattle.coding.specs.ManchesterLaws.{code_value}
use Rattle.coding.proofs.laws.table_holds.Goals as goal

pub returns : goal.returns
returns c = record {
  back = code_value;
  forth = λ o k e. let r = position-Some (λ x. eqb x o) code_table k 0 e in (r.0, eqb-true _ o r.1);
}
