mod ScaledNumbers
mod WrittenBytes
mod WrittenTexts
