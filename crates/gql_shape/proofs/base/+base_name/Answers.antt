use Rattle.gql_shape.proofs.Kept.{base_name-Named, base_name-ListOf, base_name-NonNull}
use Rattle.gql_shape.proofs.base.+base_name.Goals as goal

pub returns-in-Named : goal.returns-in-Named
returns-in-Named t c = rw (c.in-Named.is, base_name-Named c.in-Named.name)

pub returns-in-ListOf : goal.returns-in-ListOf
returns-in-ListOf t c = rw (c.base_name.ensures, c.get.ensures, c.in-ListOf.is, base_name-ListOf c.in-ListOf.inner)

pub returns-in-NonNull : goal.returns-in-NonNull
returns-in-NonNull t c = rw (c.base_name-in-NonNull.ensures, c.get-in-NonNull.ensures, c.in-NonNull.is, base_name-NonNull c.in-NonNull.inner)
