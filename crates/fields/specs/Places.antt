-- How the place of an object's bytes is told in numbers.
use Rattle.refusals.specs.Refusals.{answer}
use Rattle.refusals.specs.declared.answer.Answer.{Answer}
use Rattle.fields.specs.declared.place.Place.{Place}

-- position and length
abbrev pub place_report : (place : Place) → Answer
place_report place = answer 0 place.position place.length
