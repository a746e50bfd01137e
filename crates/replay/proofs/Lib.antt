mod DigestLaws
mod RaisedLaws
mod AnswerLaws
mod PlayLaws
