mod BeginsLaws
