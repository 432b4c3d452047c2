mod LooseValues
mod Values
mod Serving
mod AnswersBack
mod EntriesBack
