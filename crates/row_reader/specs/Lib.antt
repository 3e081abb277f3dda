-- Callers read Entry with what it stands on (Number, Line, Quotes, Record, Values), and Spelled, Printed and Spells, of which
-- the laws speak, Celled and Interned, and Fields with the reader of fields. Answers serves contracts, and only private contracts
-- cite Drafted and TextRead. Who writes lines reads NumberTexts, FieldTexts and RecordTexts; `pointed` and `Begins` there serve private
-- contracts too.
pub mod Number
pub mod Line
pub mod Quotes
pub mod Record
pub mod Fields
pub mod Values
pub mod Entry
pub mod Celled
pub mod Answers
pub mod Interned
pub mod TextRead
pub mod Drafted
pub mod Spelled
pub mod Printed
pub mod Spells
pub mod NumberTexts
pub mod FieldTexts
pub mod RecordTexts
