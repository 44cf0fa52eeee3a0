mod CharacterParts
mod Ends
mod FieldParts
mod RepeatedTexts
mod TextRoom
