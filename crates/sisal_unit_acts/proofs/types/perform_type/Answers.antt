-- Each arm is one action.
use Rattle.sisal_unit_acts.proofs.types.perform_type.Goals as goal

pub returns-in-Basic : goal.returns-in-Basic
returns-in-Basic c = rw c.in-Basic.is c.basic.ensures

pub returns-in-Listed : goal.returns-in-Listed
returns-in-Listed c = rw c.in-Listed.is c.listed.ensures

pub returns-in-Fielded : goal.returns-in-Fielded
returns-in-Fielded c = rw c.in-Fielded.is c.fielded.ensures

pub returns-in-Tagged : goal.returns-in-Tagged
returns-in-Tagged c = rw c.in-Tagged.is c.tagged.ensures

pub returns-in-NoFields : goal.returns-in-NoFields
returns-in-NoFields c = rw c.in-NoFields.is c.no_fields.ensures

pub returns-in-SemiFields : goal.returns-in-SemiFields
returns-in-SemiFields c = rw c.in-SemiFields.is c.semi_fields.ensures

pub returns-in-MoreFields : goal.returns-in-MoreFields
returns-in-MoreFields c = rw c.in-MoreFields.is c.more_fields.ensures

pub returns-in-OneField : goal.returns-in-OneField
returns-in-OneField c = rw c.in-OneField.is c.one_field.ensures

pub returns-in-SemiTags : goal.returns-in-SemiTags
returns-in-SemiTags c = rw c.in-SemiTags.is c.semi_tags.ensures

pub returns-in-MoreTags : goal.returns-in-MoreTags
returns-in-MoreTags c = rw c.in-MoreTags.is c.more_tags.ensures

pub returns-in-OneTag : goal.returns-in-OneTag
returns-in-OneTag c = rw c.in-OneTag.is c.one_tag.ensures

pub returns-in-TypedTag : goal.returns-in-TypedTag
returns-in-TypedTag c = rw c.in-TypedTag.is c.typed_tag.ensures

pub returns-in-NoTypes : goal.returns-in-NoTypes
returns-in-NoTypes c = rw c.in-NoTypes.is c.no_types.ensures

pub returns-in-MoreTypes : goal.returns-in-MoreTypes
returns-in-MoreTypes c = rw c.in-MoreTypes.is c.more_types.ensures

pub returns-in-NoType : goal.returns-in-NoType
returns-in-NoType c = rw c.in-NoType.is c.no_type.ensures

pub returns-in-SomeType : goal.returns-in-SomeType
returns-in-SomeType c = rw c.in-SomeType.is c.some_type.ensures
